-- 01, "Insert" and "Insert: 1, 2, 9 (entry, buffer), 5, 9 (merge), 6, 7": what it is to do, on every input.
use Rattle.std.specs.Prelude.{Option, Some, None, Result, Ok, Err}
use Rattle.terms.specs.declared.Refusal.{Refusal}
use Rattle.std.specs.Prelude.{Bool, List, ℕ, suc, ◌+◌, ◌-◌, ◌*◌, ◌≤◌, ◌<◌, ltb, leb, get_or}
use Rattle.lists.specs.Tests.{pick, both}
use Rattle.terms.specs.Limits.{key_of, cut_most}
use Rattle.terms.specs.Keys.{is_key}
use Rattle.terms.specs.declared.Key.{Key}
use Rattle.terms.specs.declared.Entry.{Entry}
use Rattle.terms.specs.declared.Refusal.TheVariants.{Limits as OutOfLimits, LargeKey, KeyRoom, SegmentRoom, StoreWrong}
use Rattle.table.specs.Store.{Store, in_use}
use Rattle.table.specs.Limits.{Limits, limited_of, key_room, segment_room}
use Rattle.table.specs.Entries.{run_of, used_of}
use Rattle.choose.specs.Picked.{picked_in}
use Rattle.scan.specs.Scan.{fails_of}
use Rattle.insert_decide.specs.declared.Weighed.{Weighed}
use Rattle.insert_decide.specs.declared.Weighed.TheVariants.{Slot, Pieces}
use Rattle.insert_decide.specs.Weighed.{weighed_of}
use Rattle.insert_decide.specs.declared.Decided.{Decided}
use Rattle.insert_decide.specs.declared.Decided.TheVariants.{Put, Merge}

-- a later entry lets a merge pass: 01, "a later entry with base above n or held ≥ B" is wrong
unfoldable pub passes_of : ℕ → ℕ → List ℕ → ℕ → Bool
passes_of b n table j = both (leb (get_or table (5 * j + 1) 0) n) (ltb (get_or table (5 * j + 4) 0) b)

-- the lowest later one that does not: "(the lowest such)"
unfoldable pub later_of : ℕ → ℕ → ℕ → List ℕ → ℕ → Option ℕ
later_of b n s table i = fails_of (passes_of b n table) (suc i) (s - suc i)

-- 7: "result needs more segments than segment room"
unfoldable pub roomed_of : ℕ → ℕ → List ℕ → List ℕ → ℕ → Entry → ℕ → Result Decided Refusal
roomed_of b s table buffers i x t = pick (leb (s - 1 + t) (segment_room b table buffers)) (Ok (Merge i x t)) (Err SegmentRoom)

-- 6: "merge due and n+B above key room"
unfoldable pub room_for : Store → ℕ → Entry → ℕ → Result Decided Refusal
room_for σ i x t = pick (leb (σ.n + σ.b) (key_room σ.keys)) (roomed_of σ.b σ.s σ.table σ.buffers i x t) (Err KeyRoom)

-- 9, merge due: "a later entry with base above n or held ≥ B (the lowest such)"
abbrev pub later_for : Option ℕ → Result Decided Refusal → Result Decided Refusal
later_for (Some j) rest = Err (StoreWrong j)
later_for None rest = rest

unfoldable pub merge_for : Store → ℕ → Entry → ℕ → Result Decided Refusal
merge_for σ i x t = later_for (later_of σ.b σ.n σ.s σ.table i) (room_for σ i x t)

-- by what becomes of k in segment i: 9 (buffer, merged list), 5, a slot or a merge
abbrev pub weighed_for : Store → ℕ → Entry → Result Weighed Refusal → Result Decided Refusal
weighed_for σ i x (Ok (Slot p)) = Ok (Put i x p)
weighed_for σ i x (Ok (Pieces t)) = merge_for σ i x t
weighed_for σ i x (Err r) = Err r

-- the run and the used slots are lent once, by the entry that was picked
unfoldable pub sound_for : Store → ℕ → Entry → Key → Result Decided Refusal
sound_for σ i x k = weighed_for σ i x (weighed_of i (in_use σ) σ.b x (run_of σ.keys x) (used_of σ.b σ.buffers i x.held) k)

-- 9, entry: "a damaged chosen entry"
abbrev pub picked_for : Store → ℕ → Result (ℕ × Entry) Refusal → Result Decided Refusal
picked_for σ k (Ok (i, x)) = sound_for σ i x (key_of k)
picked_for σ k (Err r) = Err r

-- 1: "e, B, n or s outside its limits, or n, 5·s or s·B above the slice's length"; 2: "a key given is not below 2^44"
unfoldable pub decided_of : Store → ℕ → Result Decided Refusal
decided_of σ k = pick (limited_of σ) (pick (is_key k) (picked_for σ k (picked_in σ k)) (Err (LargeKey (record { 0 = 0 })))) (Err OutOfLimits)

-- ---- what the functions ask

-- segment i is to be cut into t
pub record Cut (σ : Store) (i t : ℕ) : Type 0 where
  pub limits : Limits σ
  pub inside : i < σ.s
  pub few : t ≤ cut_most
