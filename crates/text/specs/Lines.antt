-- 01, "The program": "one per line, 1 to 14 decimal digits and a newline".
use Rattle.std.specs.Prelude.{List, [], ◌∷◌, ℕ, ◌+◌, ◌-◌, ◌*◌, ◌≤◌, ltb, leb, eqb, length, drop}
use Rattle.lists.specs.Tests.{pick}
use Rattle.text.specs.declared.Symbol.{Symbol}
use Rattle.text.specs.declared.Symbol.TheVariants.{Digit, Newline, Other}
use Rattle.text.specs.declared.Line.{Line}
use Rattle.text.specs.declared.Line.TheVariants.{Number, Bad, End}

abbrev pub digits_most : ℕ
digits_most = 14

-- a byte: 10 is the newline, 48 to 57 are the digits 0 to 9
unfoldable pub symbol_of : ℕ → Symbol
symbol_of c = pick (eqb c 10) Newline (pick (ltb c 48) Other (pick (ltb 57 c) Other (Digit (c - 48))))

-- what a byte at p does to a line of n digits that make v; `more` goes on after a digit
abbrev pub byte_of : Symbol → ℕ → ℕ → ℕ → (ℕ → Line) → Line
byte_of Newline p v n more = pick (eqb n 0) Bad (Number v (p + 1))
byte_of Other p v n more = Bad
byte_of (Digit d) p v n more = pick (leb digits_most n) Bad (more d)

-- the rest of a line, from p on, after n digits that make v: it ends with a newline, and not with the text
unfoldable pub rest_of : List ℕ → ℕ → ℕ → ℕ → Line
rest_of [] p v n = Bad
rest_of (c ∷ cs) p v n = byte_of (symbol_of c) p v n (λ d. rest_of cs (p + 1) (v * 10 + d) (n + 1))

-- the line that starts at a place, and the end of the text
unfoldable pub line_at : List ℕ → ℕ → Line
line_at text at = pick (leb (length text) at) End (rest_of (drop at text) at 0 0)

-- a line ends inside the text
abbrev pub Inside : ℕ → Line → Type 0
Inside m (Number v next) = next ≤ m
Inside m Bad = Unit
Inside m End = Unit
