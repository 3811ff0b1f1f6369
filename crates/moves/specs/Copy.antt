-- Cells copied one after the other, from one slice to another.
use Rattle.std.specs.Prelude.{◌≡◌, List, ℕ, ◌+◌, ◌≤◌, length}
use Rattle.std.proofs.Math.Seq.{paste}

-- from a on there are n cells
pub record Stretch (xs : List ℕ) (a n : ℕ) : Type 0 where
  pub fits : a + n ≤ length xs

-- the loop: the first j of ys have been copied to the place `at`
pub record Pasting (xs : List ℕ) (at : ℕ) (ys s : List ℕ) (j : ℕ) : Type 0 where
  pub room : at + j ≤ length xs
  pub few : j ≤ length ys
  pub same : length s ≡ length xs
  pub is : s ≡ paste xs at ys j
