-- 01, "Build: 1; then 2 or 3 at the lowest faulty position, 2 before 3; 7." What build answers, and what it leaves in the table, on every input.
-- A test that is used as a fact stands beside the record of that fact.
use Rattle.std.specs.Prelude.{Option, Some, None, Result, Ok, Err}
use Rattle.terms.specs.declared.Refusal.{Refusal}
use Rattle.std.specs.Prelude.{⊤}
use Rattle.std.specs.Prelude.{Bool, List, ◌++◌, ℕ, ◌*◌, ◌≤◌, ◌<◌, leb, length, take, drop}
use Rattle.lists.specs.Tests.{pick, both}
use Rattle.terms.specs.declared.Refusal.TheVariants.{Limits, SegmentRoom}
use Rattle.table.specs.Limits.{sized_of, Sized, segment_room}
use Rattle.cone.specs.Rule.{cut}
use Rattle.cone.specs.Keys.{Cuttable}
use Rattle.cutting.specs.Rows.{rows_of}
use Rattle.build_keys.specs.Faults.{fault_of, wrong_of}

-- 1: "e, B, n or s outside its limits, or n .. above the slice's length (build has no s yet)"
unfoldable pub takes_of : ℕ → ℕ → ℕ → List ℕ → Bool
takes_of e b n keys = both (sized_of e b n) (leb n (length keys))

pub record Takes (e b n : ℕ) (keys : List ℕ) : Type 0 where
  pub sized : Sized e b n
  pub held : n ≤ length keys

-- 7: "result needs more segments than segment room"
abbrev pub roomed_of : ℕ → ℕ → Result ⊤ Refusal
roomed_of s room = pick (leb s room) (Ok tt) (Err SegmentRoom)

abbrev pub found_of : Option ℕ → List ℕ → Result ⊤ Refusal → Result ⊤ Refusal
found_of (Some p) keys rest = Err (wrong_of keys p)
found_of None keys rest = rest

-- the order of the refusals; build's keys are the first n of the key slice
unfoldable pub judged_of : ℕ → ℕ → ℕ → List ℕ → List ℕ → List ℕ → Result ⊤ Refusal
judged_of e b n keys table buffers =
    pick (takes_of e b n keys)
    (found_of (fault_of keys n) keys (roomed_of (length (cut e (take n keys))) (segment_room b table buffers)))
    (Err Limits)

-- "Accepted, build answers s"
abbrev pub answer_by : Result ⊤ Refusal → ℕ → Result ℕ Refusal
answer_by (Ok tt) s = Ok s
answer_by (Err r) s = Err r

unfoldable pub built_of : ℕ → ℕ → ℕ → List ℕ → List ℕ → List ℕ → Result ℕ Refusal
built_of e b n keys table buffers = answer_by (judged_of e b n keys table buffers) (length (cut e (take n keys)))

-- the table after the call: the cut's entries from its start, and "no lent slice differs from before the call" where it refuses
abbrev pub table_by : Result ℕ Refusal → ℕ → ℕ → List ℕ → List ℕ → List ℕ
table_by (Err r) e n keys table = table
table_by (Ok s) e n keys table = rows_of 0 (cut e (take n keys)) ++ drop (5 * s) table

-- what the test of the room asks
pub record Roomable (e b : ℕ) (ks : List ℕ) : Type 0 where
  pub keys : Cuttable e ks
  pub some : 0 < length ks
  pub slots : 0 < b
