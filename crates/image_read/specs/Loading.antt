-- 01, "Reading: 10 (head), 1, 10 (rest), 6, 7." What reading answers on every byte string, and every cell of the three slices after it.
use Rattle.std.specs.Prelude.{Result, Ok, Err}
use Rattle.terms.specs.declared.Refusal.{Refusal}
use Rattle.std.specs.Prelude.{Bool, List, ℕ, leb}
use Rattle.terms.specs.declared.Sizes.{Sizes}
use Rattle.terms.specs.declared.Refusal.TheVariants.{KeyRoom, SegmentRoom}
use Rattle.lists.specs.Tests.{pick}
use Rattle.lists.specs.Over.{over}
use Rattle.table.specs.Limits.{key_room, segment_room}
use Rattle.image_records.specs.Images.{layout_of, image_at}
use Rattle.image_records.specs.First.{first}
use Rattle.image_records.specs.Stores.{firsts, rows_of, slots_by}
use Rattle.image_judge.specs.Judging.{judged_of}

-- "Key room is ..", "Segment room is ..": n keys, and s segments, have room
unfoldable pub keys_held : ℕ → List ℕ → Bool
keys_held n keys = leb n (key_room keys)

unfoldable pub segments_held : ℕ → ℕ → List ℕ → List ℕ → Bool
segments_held b s table buffers = leb s (segment_room b table buffers)

-- "6: image: n above it" (key room); "7: result needs more segments than segment room"
unfoldable pub roomed_of : Sizes → List ℕ → List ℕ → List ℕ → Result Sizes Refusal
roomed_of z keys table buffers =
    pick (keys_held z.n keys) (pick (segments_held z.b z.s table buffers) (Ok z) (Err SegmentRoom)) (Err KeyRoom)

abbrev pub after_judged : Result Sizes Refusal → List ℕ → List ℕ → List ℕ → Result Sizes Refusal
after_judged (Ok z) keys table buffers = roomed_of z keys table buffers
after_judged (Err r) keys table buffers = Err r

-- 10 (head), 1, 10 (rest), then 6 and 7
unfoldable pub load_of : List ℕ → List ℕ → List ℕ → List ℕ → Result Sizes Refusal
load_of bytes keys table buffers = after_judged (judged_of (layout_of first) bytes) keys table buffers

-- ---- the cells after it: "Reading fixes the used cells only"; a refusal changes none

-- the n keys from the start of the key slice
abbrev pub keys_by : Result Sizes Refusal → List ℕ → List ℕ → List ℕ
keys_by (Ok z) bytes keys = over keys 0 (firsts (image_at first bytes).keys)
keys_by (Err r) bytes keys = keys

-- five numbers a segment from the start of the table
abbrev pub table_by : Result Sizes Refusal → List ℕ → List ℕ → List ℕ
table_by (Ok z) bytes table = over table 0 (rows_of (image_at first bytes).parts)
table_by (Err r) bytes table = table

-- each segment's held slots from i·B on
abbrev pub buffers_by : Result Sizes Refusal → List ℕ → List ℕ → List ℕ
buffers_by (Ok z) bytes buffers = slots_by z.b (image_at first bytes).parts 0 buffers
buffers_by (Err r) bytes buffers = buffers
