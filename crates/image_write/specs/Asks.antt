-- What the sum of the length asks, and the length of the segments' records as the code counts it.
use Rattle.std.specs.Prelude.{◌≡◌, List, ℕ, zero, suc, ◌+◌, ◌-◌, ◌*◌, ◌≤◌, ◌<◌, length, get_or}
use Rattle.terms.specs.Limits.{b_most, n_most, s_most}

-- 18 bytes for a segment and 7 for each key it holds: of `count` segments from i on
unfoldable pub parts_size : List ℕ → ℕ → ℕ → ℕ
parts_size t i zero = 0
parts_size t i (suc count) = 18 + 7 * get_or t (5 * i + 4) 0 + parts_size t (i + 1) count

-- its sum does not wrap: each segment holds fewer than B
pub record Sizable (b n s : ℕ) (t : List ℕ) : Type 0 where
  pub few : s ≤ s_most
  pub rows : 5 * s ≤ length t
  pub small : b ≤ b_most
  pub n_limit : n ≤ n_most
  pub held : (j : ℕ) → j < s → get_or t (5 * j + 4) 0 < b

-- the loop has counted p bytes, up to segment i
pub record Sizing (s : ℕ) (t : List ℕ) (from p i : ℕ) : Type 0 where
  pub is : p + parts_size t i (s - i) ≡ from + parts_size t 0 s
  pub bounded : p ≤ from + 466 * i
