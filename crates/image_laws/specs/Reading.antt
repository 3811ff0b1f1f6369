-- What each answer of image reading means, with no walk in it: 01's table, row by row, in its order 10 (head), 1, 10 (rest), 6, 7.
use Rattle.std.specs.Prelude.{Result, Ok, Err}
use Rattle.terms.specs.declared.Refusal.{Refusal}
use Rattle.terms.specs.declared.Sizes.{Sizes}
use Rattle.terms.specs.Limits.{sizes_of}
use Rattle.std.specs.Prelude.{List, ℕ, ◌≤◌, ◌<◌}
use Rattle.terms.specs.declared.Refusal.TheVariants.{Limits as OutOfLimits, KeyRoom, SegmentRoom, Malformed}
use Rattle.image_little.specs.Little.{get_at}
use Rattle.table.specs.Limits.{Counted, key_room, segment_room}
use Rattle.image_records.specs.Records.{Stands, kind_of}
use Rattle.image_records.specs.Images.{layout_of}
use Rattle.image_records.specs.Meaning.{Rest}
use Rattle.image_records.specs.First.{first}

-- a head stands at the start, and "e, B, n, s, two each" are these
abbrev pub Head : List ℕ → Type 0
Head l = Stands (kind_of first.head) l 0

abbrev pub e_in : List ℕ → ℕ
e_in l = get_at l 1 2

abbrev pub b_in : List ℕ → ℕ
b_in l = get_at l 3 2

abbrev pub n_in : List ℕ → ℕ
n_in l = get_at l 5 2

abbrev pub s_in : List ℕ → ℕ
s_in l = get_at l 7 2

-- which are within their limits
pub record Headed (l : List ℕ) : Type 0 where
  pub head : Head l
  pub counted : Counted (e_in l) (b_in l) (n_in l) (s_in l)

-- the records after the head stand, in their order, up to the last byte
pub record Formed (l : List ℕ) : Type 0 where
  pub headed : Headed l
  pub last : ℕ
  pub rest : Rest (layout_of first) l (b_in l) (n_in l) (s_in l) 9 (Ok last)

-- p is the offset of the first that does not, or of the first byte after the end
abbrev pub Faulty : List ℕ → ℕ → Type 0
Faulty l p = Rest (layout_of first) l (b_in l) (n_in l) (s_in l) 9 (Err p)

pub data Answers (l keys table buffers : List ℕ) : Result Sizes Refusal → Type 0 where
  taken : Formed l → n_in l ≤ key_room keys → s_in l ≤ segment_room (b_in l) table buffers → Answers l keys table buffers (Ok (sizes_of (e_in l) (b_in l) (n_in l) (s_in l)))
  refused_10_head : (Head l → ⊥) → Answers l keys table buffers (Err (Malformed 0))
  refused_1 : Head l → (Counted (e_in l) (b_in l) (n_in l) (s_in l) → ⊥) → Answers l keys table buffers (Err OutOfLimits)
  refused_10 : {p : ℕ} → Headed l → Faulty l p → Answers l keys table buffers (Err (Malformed p))
  refused_6 : Formed l → key_room keys < n_in l → Answers l keys table buffers (Err KeyRoom)
  refused_7 : Formed l → n_in l ≤ key_room keys → segment_room (b_in l) table buffers < s_in l → Answers l keys table buffers (Err SegmentRoom)
