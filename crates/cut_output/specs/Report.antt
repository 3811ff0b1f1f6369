-- 01, "The program": "It prints counts, then one line per segment: first key, base, rise, run, held"; "a refusal prints `refused 3 at 4`,
-- number then place". As bytes: 32 is the space, 10 the newline.
use Rattle.std.specs.Prelude.{List, [], ◌∷◌, ◌++◌, ℕ, zero, suc, ◌+◌, ◌*◌, ◌%◌, ◌≤◌, eqb, length, get_or}
use Rattle.lists.specs.Tests.{pick}
use Rattle.terms.specs.declared.Refusal.{Refusal}
use Rattle.terms.specs.Limits.{s_most}
use Rattle.terms.specs.Refusals.{number_of, place_of}
use Rattle.text.specs.Decimal.{decimal_of}

-- a number and the byte after it
unfoldable pub field_of : ℕ → ℕ → List ℕ
field_of x closing = decimal_of x ++ (closing ∷ [])

-- a word and the number after it
unfoldable pub named_of : List ℕ → ℕ → List ℕ
named_of word x = word ++ decimal_of x

-- the same, and the end of the line
unfoldable pub last_of : List ℕ → ℕ → List ℕ
last_of word x = named_of word x ++ (10 ∷ [])

-- `n=6 s=2`
unfoldable pub keys_segments : ℕ → ℕ → List ℕ
keys_segments n s = named_of (110 ∷ (61 ∷ [])) n ++ named_of (32 ∷ (115 ∷ (61 ∷ []))) s

-- ` e=1 b=2`, and the end of the line
unfoldable pub bound_buffer : ℕ → ℕ → List ℕ
bound_buffer e b = named_of (32 ∷ (101 ∷ (61 ∷ []))) e ++ last_of (32 ∷ (98 ∷ (61 ∷ []))) b

unfoldable pub counts_of : ℕ → ℕ → ℕ → ℕ → List ℕ
counts_of n s e b = keys_segments n s ++ bound_buffer e b

-- five numbers to a line
unfoldable pub closing_of : ℕ → ℕ
closing_of p = pick (eqb (p % 5) 4) 10 32

-- the table's cells from p on, `count` of them
unfoldable pub cells_of : List ℕ → ℕ → ℕ → List ℕ
cells_of table p zero = []
cells_of table p (suc count) = field_of (get_or table p 0) (closing_of p) ++ cells_of table (suc p) count

-- the counts, and one line per segment
unfoldable pub report_of : ℕ → ℕ → ℕ → ℕ → List ℕ → List ℕ
report_of n s e b table = counts_of n s e b ++ cells_of table 0 (5 * s)

-- `refused `, the number, ` at `, the place, and the end of the line
unfoldable pub refusal_of : Refusal → List ℕ
refusal_of r =
    named_of (114 ∷ (101 ∷ (102 ∷ (117 ∷ (115 ∷ (101 ∷ (100 ∷ (32 ∷ [])))))))) (number_of r) ++
    last_of (32 ∷ (97 ∷ (116 ∷ (32 ∷ [])))) (place_of r)

-- ---- what the functions ask: room for the longest that a piece may be

pub record Named (out : List ℕ) (at : ℕ) (word : List ℕ) : Type 0 where
  pub short : length word ≤ 8
  pub room : at + 29 ≤ length out

pub record Cells (out : List ℕ) (at : ℕ) (table : List ℕ) : Type 0 where
  pub room : at + 21 * length table ≤ length out

pub record Report (out : List ℕ) (s : ℕ) (table : List ℕ) : Type 0 where
  pub few : s ≤ s_most
  pub held : 5 * s ≤ length table
  pub room : 120 + 105 * s ≤ length out
