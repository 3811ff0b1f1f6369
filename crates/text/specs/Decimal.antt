-- A number in decimal digits, the fewest that hold it.
use Rattle.std.specs.Prelude.{List, [], ◌∷◌, ◌++◌, ℕ, zero, suc, ◌+◌, ◌/◌, ◌%◌, leb}
use Rattle.lists.specs.Tests.{pick}

-- how many digits, of a number with at most this many more than one
unfoldable pub width_from : ℕ → ℕ → ℕ
width_from zero x = 1
width_from (suc more) x = pick (leb x 9) 1 (suc (width_from more (x / 10)))

-- of any number below 10^20, so of any of 64 bits
unfoldable pub width_of : ℕ → ℕ
width_of x = width_from 19 x

-- the last w digits, the last one last
unfoldable pub digits_of : ℕ → ℕ → List ℕ
digits_of zero x = []
digits_of (suc w) x = digits_of w (x / 10) ++ ((48 + x % 10) ∷ [])

unfoldable pub decimal_of : ℕ → List ℕ
decimal_of x = digits_of (width_of x) x
