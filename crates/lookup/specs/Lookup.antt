-- 01, "Lookup": what it answers, on every input.
use Rattle.std.specs.Prelude.{Option, Some, None, Result, Ok, Err}
use Rattle.terms.specs.declared.Refusal.{Refusal}
use Rattle.std.specs.Prelude.{List, ℕ, ◌-◌, length}
use Rattle.lists.specs.Tests.{pick}
use Rattle.terms.specs.Limits.{key_of}
use Rattle.terms.specs.Keys.{is_key, IsKey}
use Rattle.terms.specs.declared.Key.{Key}
use Rattle.terms.specs.declared.Entry.{Entry}
use Rattle.terms.specs.declared.Refusal.TheVariants.{Limits, LargeKey, StoreWrong}
use Rattle.table.specs.Store.{Store, in_use}
use Rattle.table.specs.Limits.{limited_of}
use Rattle.table.specs.Entries.{run_of, used_of}
use Rattle.choose.specs.Picked.{picked_in}
use Rattle.segment.specs.Lent.{Lent}
use Rattle.line.specs.declared.Places.{Places}
use Rattle.line.specs.Line.{reach_of}
use Rattle.scan.specs.Scan.{lowest_of, shifted}
use Rattle.answers.specs.declared.Looked.{Looked}
use Rattle.answers.specs.declared.Looked.TheVariants.{InRun, InBuffer, Absent}

-- "else the lowest used buffer slot with k, as segment and slot, counted from 0 in the segment; else absent"
abbrev pub slot_of : ℕ → Option ℕ → Looked
slot_of i (Some j) = InBuffer i j
slot_of i None = Absent

unfoldable pub buffered_of : ℕ → List ℕ → ℕ → Looked
buffered_of i used k = slot_of i (lowest_of used 0 (length used) k)

-- "Answer the lowest window position with key k": a place of the run, which starts at base
abbrev pub lowest_in : List ℕ → Places → ℕ → Option ℕ
lowest_in run w k = lowest_of run w.from (w.to - w.from) k

abbrev pub place_or : Looked → Option ℕ → Looked
place_or other (Some p) = InRun (record { 0 = p })
place_or other None = other

unfoldable pub searched_of : ℕ → Entry → ℕ → List ℕ → List ℕ → Key → Looked
searched_of e x i run used k = place_or (buffered_of i used k.0) (shifted x.base.0 (lowest_in run (reach_of e x k) k.0))

-- what a search of a segment asks
pub record Asked (x : Entry) (run used : List ℕ) (k : Key) : Type 0 where
  pub lent : Lent x run used
  pub key_small : IsKey k.0

-- "refuse if that entry is damaged"
abbrev pub picked_for : Store → ℕ → Result (ℕ × Entry) Refusal → Result Looked Refusal
picked_for σ k (Ok (i, x)) = Ok (searched_of (in_use σ) x i (run_of σ.keys x) (used_of σ.b σ.buffers i x.held) (key_of k))
picked_for σ k (Err r) = Err r

-- "Lookup: 1, 2, 9"
unfoldable pub lookup_of : Store → ℕ → Result Looked Refusal
lookup_of σ k =
    pick (limited_of σ)
    (pick (is_key k) (picked_for σ k (picked_in σ k)) (Err (LargeKey (record { 0 = 0 }))))
    (Err Limits)
