-- 01, "The program": "Standard input: e, B, then the keys, one per line". "The earliest faulty line decides before any other check, key 513
-- counting as a faulty line; if it is itself malformed it is 11. Missing e or B is 11 at the line that should be there."
use Rattle.std.specs.Prelude.{Result, Ok, Err}
use Rattle.terms.specs.declared.Refusal.{Refusal}
use Rattle.std.specs.Prelude.{List, [], ◌∷◌, ℕ, zero, suc, ◌+◌}
use Rattle.terms.specs.declared.Refusal.TheVariants.{KeyRoom, BadLine}
use Rattle.text.specs.declared.Line.{Line}
use Rattle.text.specs.declared.Line.TheVariants.{Number, Bad, End}
use Rattle.text.specs.Lines.{line_at}
use Rattle.cut_input.specs.declared.Listed.{Listed}

-- a line after k keys: the text is over, the line (the keys start on line 3) is malformed, or it is a key and `more` goes on
abbrev pub key_or : Line → ℕ → (ℕ → ℕ → Result ℕ Refusal) → Result ℕ Refusal
key_or End k more = Ok k
key_or Bad k more = Err (BadLine (k + 3))
key_or (Number v next) k more = more v next

-- the keys from `at` on, with k read before and room for `left` more
unfoldable pub keys_of : ℕ → List ℕ → ℕ → ℕ → Result ℕ Refusal
keys_of zero text at k = key_or (line_at text at) k (λ v next. Err KeyRoom)
keys_of (suc left) text at k = key_or (line_at text at) k (λ v next. keys_of left text next (k + 1))

-- the keys themselves, up to the first that is faulty
abbrev pub value_or : Line → (ℕ → ℕ → List ℕ) → List ℕ
value_or End more = []
value_or Bad more = []
value_or (Number v next) more = more v next

unfoldable pub values_of : ℕ → List ℕ → ℕ → List ℕ
values_of zero text at = []
values_of (suc left) text at = value_or (line_at text at) (λ v next. v ∷ values_of left text next)

-- a line that must be there, as line l
abbrev pub number_or : Line → ℕ → (ℕ → ℕ → Result Listed Refusal) → Result Listed Refusal
number_or End l more = Err (BadLine l)
number_or Bad l more = Err (BadLine l)
number_or (Number v next) l more = more v next

-- the same as an answer: the number, and the place past its line
abbrev pub number_at : Line → ℕ → Result (ℕ × ℕ) Refusal
number_at End l = Err (BadLine l)
number_at Bad l = Err (BadLine l)
number_at (Number v next) l = Ok (v, next)

abbrev pub counted : ℕ → ℕ → Result ℕ Refusal → Result Listed Refusal
counted e b (Ok n) = Ok (record { e = e; b = b; n = n })
counted e b (Err r) = Err r

-- the whole list, into `room` cells, after e and B, after e, and from the start
unfoldable pub after_b : ℕ → List ℕ → ℕ → ℕ → ℕ → Result Listed Refusal
after_b room text e b at = counted e b (keys_of room text at 0)

unfoldable pub after_e : ℕ → List ℕ → ℕ → ℕ → Result Listed Refusal
after_e room text e at = number_or (line_at text at) 2 (λ b next. after_b room text e b next)

unfoldable pub listed_of : ℕ → List ℕ → Result Listed Refusal
listed_of room text = number_or (line_at text 0) 1 (λ e next. after_e room text e next)

-- the keys that it gives
unfoldable pub given_after_e : ℕ → List ℕ → ℕ → List ℕ
given_after_e room text at = value_or (line_at text at) (λ b next. values_of room text next)

unfoldable pub given_of : ℕ → List ℕ → List ℕ
given_of room text = value_or (line_at text 0) (λ e next. given_after_e room text next)
