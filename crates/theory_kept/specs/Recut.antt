-- 01, "Insert": what a merge leaves where the segment stood. "that list alone is cut with e; the t new segments replace the old one".
use Rattle.std.specs.Prelude.{Result, Ok, Err}
use Rattle.terms.specs.declared.Refusal.{Refusal}
use Rattle.std.specs.Prelude.{◌≡◌, List, ℕ, ◌+◌, ◌-◌, ◌*◌, length, take, drop}
use Rattle.lists.specs.Merge.{insert_sorted}
use Rattle.table.specs.Store.{Store, in_use}
use Rattle.table.specs.Entries.{entry_in}
use Rattle.table.specs.Reads.{merged_in}
use Rattle.cone.specs.Rule.{cut}
use Rattle.cutting.specs.Rows.{rows_of}
use Rattle.answers.specs.declared.Inserted.{Inserted}
use Rattle.answers.specs.declared.Inserted.TheVariants.{Buffered, Merged}
use Rattle.insert.specs.Cells.{keys_by, table_by}

-- the segment's reads, with k in its rising place
abbrev pub list_for : Store → ℕ → ℕ → List ℕ
list_for σ k i = insert_sorted k (merged_in σ i)

pub record Recut (σ : Store) (k i t n s : ℕ) : Type 0 where
  -- t segments, n and s the new counts
  pub pieces : t ≡ length (cut (in_use σ) (list_for σ k i))
  pub n_grows : n ≡ σ.n + σ.b
  pub s_grows : s ≡ σ.s - 1 + t
  -- from entry i on the t entries of the cut, their bases counted from the segment's base
  pub entries : take (5 * t) (drop (5 * i) (table_by (Ok (Merged i t n s)) σ k)) ≡ rows_of (entry_in σ i).base.0 (cut (in_use σ) (list_for σ k i))
  -- from the segment's base on the list itself
  pub keys : take (length (list_for σ k i)) (drop (entry_in σ i).base.0 (keys_by (Ok (Merged i t n s)) σ k)) ≡ list_for σ k i

-- of an answer: there is something to say of a merge only
abbrev pub Leaves : Store → ℕ → Result Inserted Refusal → Type 0
Leaves σ k (Ok (Buffered i j)) = Unit
Leaves σ k (Ok (Merged i t n s)) = Recut σ k i t n s
Leaves σ k (Err r) = Unit
