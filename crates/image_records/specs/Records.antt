-- 01, "Records: one byte of kind, then a body whose length the kind fixes. Numbers little-endian." A record of any shape, and a row of them.
-- Writing makes a list of bytes; reading looks into all the bytes at an offset. Nothing here knows which records there are.
use Rattle.std.specs.Prelude.{Result, Ok, Err}
use Rattle.std.specs.Prelude.{◌≡◌, Bool, true, false, List, [], ◌∷◌, ◌++◌, ℕ, zero, suc, ◌+◌, ◌^◌, ◌≤◌, ◌<◌, leb, ltb, eqb, length, get_or}
use Rattle.lists.specs.Tests.{pick, both, all}
use Rattle.image_little.specs.Little.{number_bytes, get_at}
use Rattle.image_records.specs.declared.Kind.{Kind}

-- a kind, and the widths of the numbers of its body
pub record Shape : Type 0 where
  pub kind : ℕ
  pub widths : List ℕ

abbrev pub shape : ℕ → List ℕ → Shape
shape kind widths = record { kind = kind; widths = widths }

-- ---- written

-- the numbers of a body
unfoldable pub field_bytes : List ℕ → List ℕ → List ℕ
field_bytes [] xs = []
field_bytes (w ∷ ws) [] = []
field_bytes (w ∷ ws) (x ∷ xs) = number_bytes w x ++ field_bytes ws xs

-- "one byte of kind, then a body"
unfoldable pub record_bytes : Shape → List ℕ → List ℕ
record_bytes sh xs = sh.kind ∷ field_bytes sh.widths xs

-- records of one shape, one after the other
unfoldable pub many_bytes : Shape → List (List ℕ) → List ℕ
many_bytes sh [] = []
many_bytes sh (r ∷ rs) = record_bytes sh r ++ many_bytes sh rs

-- what can be written: each number fits its width, and there are as many as widths; as a test, and as a type
unfoldable pub fits_of : List ℕ → List ℕ → Bool
fits_of [] [] = true
fits_of [] (x ∷ xs) = false
fits_of (w ∷ ws) [] = false
fits_of (w ∷ ws) (x ∷ xs) = both (ltb x (256 ^ w)) (fits_of ws xs)

abbrev pub Fit : List ℕ → List ℕ → Type 0
Fit [] [] = Unit
Fit [] (x ∷ xs) = ⊥
Fit (w ∷ ws) [] = ⊥
Fit (w ∷ ws) (x ∷ xs) = (x < 256 ^ w) × Fit ws xs

abbrev pub FitAll : List ℕ → List (List ℕ) → Type 0
FitAll ws [] = Unit
FitAll ws (r ∷ rs) = Fit ws r × FitAll ws rs

-- ---- the length of a record

unfoldable pub total : List ℕ → ℕ
total [] = 0
total (w ∷ ws) = w + total ws

-- "a body whose length the kind fixes"
abbrev pub size : Shape → ℕ
size sh = suc (total sh.widths)

-- what the order and length rules go by
abbrev pub kind_of : Shape → Kind
kind_of sh = record { kind = sh.kind; size = size sh }

-- ---- read

-- a record of a kind stands at an offset: it is not "cut short", and not of "a wrong kind"
pub record Stands (k : Kind) (bytes : List ℕ) (at : ℕ) : Type 0 where
  pub inside : at + k.size ≤ length bytes
  pub right : get_or bytes at 0 ≡ k.kind

unfoldable pub stands_at : Kind → List ℕ → ℕ → Bool
stands_at k bytes at = all (leb (at + k.size) (length bytes) ∷ (eqb (get_or bytes at 0) k.kind ∷ []))

-- a walk along `count` records of one kind
unfoldable pub walk_of : Kind → List ℕ → ℕ → ℕ → Result ℕ ℕ
walk_of k bytes zero at = Ok at
walk_of k bytes (suc count) at = pick (stands_at k bytes at) (walk_of k bytes count (at + k.size)) (Err at)

-- one walk, then another from where it ended
abbrev pub and_then : Result ℕ ℕ → (ℕ → Result ℕ ℕ) → Result ℕ ℕ
and_then (Ok z) next = next z
and_then (Err p) next = Err p

-- the offset after `count` records
unfoldable pub after_of : Kind → ℕ → ℕ → ℕ
after_of k zero at = at
after_of k (suc count) at = after_of k count (at + k.size)

-- the numbers of a body that starts at an offset; of the record at an offset; of `count` records whose bodies have
-- these widths, whatever their kind
unfoldable pub fields_at : List ℕ → List ℕ → ℕ → List ℕ
fields_at [] bytes at = []
fields_at (w ∷ ws) bytes at = get_at bytes at w ∷ fields_at ws bytes (at + w)

abbrev pub record_at : Shape → List ℕ → ℕ → List ℕ
record_at sh bytes at = fields_at sh.widths bytes (suc at)

unfoldable pub many_at : List ℕ → List ℕ → ℕ → ℕ → List (List ℕ)
many_at ws bytes zero at = []
many_at ws bytes (suc count) at = fields_at ws bytes (suc at) ∷ many_at ws bytes count (at + suc (total ws))
