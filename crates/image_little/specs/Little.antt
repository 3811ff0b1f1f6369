-- 01, "Numbers little-endian": a number as so many bytes, and the number that so many bytes hold, by recursion on the width.
use Rattle.std.specs.Prelude.{List, [], ◌∷◌, ℕ, zero, suc, ◌+◌, ◌*◌, ◌/◌, ◌%◌, ◌≤◌, ◌<◌, length, get_or}

-- the w lowest bytes of x, lowest first
unfoldable pub number_bytes : ℕ → ℕ → List ℕ
number_bytes zero x = []
number_bytes (suc w) x = x % 256 ∷ number_bytes w (x / 256)

-- the number that the w bytes from `at` on hold, lowest first
unfoldable pub get_at : List ℕ → ℕ → ℕ → ℕ
get_at l at zero = 0
get_at l at (suc w) = get_or l at 0 + 256 * get_at l (at + 1) w

-- each cell is a byte, as it is in a `&[u8]`; past the end a cell counts as 0
abbrev pub Bytes : List ℕ → Type 0
Bytes l = (i : ℕ) → get_or l i 0 < 256

-- a number of this width can be read: it is inside, and is a number of 64 bits
pub record Read (l : List ℕ) (at width : ℕ) : Type 0 where
  pub few : width ≤ 8
  pub inside : at + width ≤ length l
