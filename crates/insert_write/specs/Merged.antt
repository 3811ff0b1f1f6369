-- The list that a merge makes of a segment, and what it asks of the segments after it.
use Rattle.std.specs.Prelude.{List, ℕ, ◌≤◌, ◌<◌, length}
use Rattle.lists.specs.Merge.{merge, insert_sorted}
use Rattle.terms.specs.declared.Entry.{Entry}
use Rattle.table.specs.Store.{Store, in_use}
use Rattle.table.specs.Entries.{entry_in, run_of, used_of}
use Rattle.cone.specs.Rule.{cut}

-- "the run, the used slots and k become one rising list": of segment i, whose entry is x
abbrev pub merged_at : Store → ℕ → Entry → ℕ → List ℕ
merged_at σ i x k = merge (run_of σ.keys x) (insert_sorted k (used_of σ.b σ.buffers i x.held))

abbrev pub merged_with : Store → ℕ → ℕ → List ℕ
merged_with σ i k = merged_at σ i (entry_in σ i) k

-- "that list alone is cut with e": into t segments
abbrev pub pieces_of : Store → ℕ → ℕ → ℕ
pieces_of σ i k = length (cut (in_use σ) (merged_with σ i k))

-- "a later entry with base above n or held ≥ B" is wrong; this one is not
pub record Passes (σ : Store) (j : ℕ) : Type 0 where
  pub base : (entry_in σ j).base.0 ≤ σ.n
  pub held : (entry_in σ j).held < σ.b
