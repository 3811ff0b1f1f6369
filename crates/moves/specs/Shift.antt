-- A stretch of cells put down again further up: what moves.
use Rattle.std.specs.Prelude.{◌≡◌, List, ℕ, ◌+◌, ◌-◌, ◌≤◌, length}
use Rattle.lists.specs.Moved.{moved}

-- there is room for `count` cells from `from` on, `by` places further up
pub record Movable (xs : List ℕ) (from count by : ℕ) : Type 0 where
  pub fits : from + count + by ≤ length xs

-- the loop: all but `left` cells have been moved
pub record Moving (xs : List ℕ) (from count by : ℕ) (s : List ℕ) (left : ℕ) : Type 0 where
  pub few : left ≤ count
  pub same : length s ≡ length xs
  pub is : s ≡ moved (from + left) (count - left) (from + left + by) xs
