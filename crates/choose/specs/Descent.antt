-- The walk that chooses goes down sixteen entries at a time and then four, so that one test of the end serves for many.
use Rattle.std.specs.Prelude.{◌≡◌, Bool, List, ℕ, zero, suc, ◌-◌, ◌*◌, ◌≤◌, ◌<◌, leb, ltb, get_or}
use Rattle.lists.specs.Tests.{pick, both}
use Rattle.table.specs.Entries.{Rows}
use Rattle.choose.specs.Chosen.{chosen_of}

-- the entries below i, a of which were passed: how many are passed until the first whose first key is at most k, or until c more are
unfoldable pub passed_of : List ℕ → ℕ → ℕ → ℕ → ℕ → ℕ
passed_of t i k a zero = a
passed_of t i k a (suc c) = pick (leb (get_or t (5 * (i - suc a)) 0) k) a (passed_of t i k (suc a) c)

-- sixteen entries below i are there, the lowest entry apart, and all are passed
unfoldable pub sixteen_of : List ℕ → ℕ → ℕ → Bool
sixteen_of t i k =
    both (ltb 16 i)
    (both (leb 4 (passed_of t i k 0 4)) (both (leb 4 (passed_of t (i - 4) k 0 4)) (both (leb 4 (passed_of t (i - 8) k 0 4)) (leb 4 (passed_of t (i - 12) k 0 4)))))

-- four entries below i are there, the lowest entry apart
pub record Fourth (t : List ℕ) (i : ℕ) : Type 0 where
  pub rows : Rows t i
  pub four : 4 < i

-- what is left below i decides
pub record Descended (t : List ℕ) (s k i : ℕ) : Type 0 where
  pub inside : i ≤ s
  pub so_far : chosen_of t i k ≡ chosen_of t s k
