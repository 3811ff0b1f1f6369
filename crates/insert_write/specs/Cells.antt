-- What an insert writes into the three slices, every cell of them.
use Rattle.std.specs.Prelude.{List, ◌++◌, ℕ, ◌+◌, ◌-◌, ◌*◌, take, drop}
use Rattle.lists.specs.Merge.{merge, insert_sorted}
use Rattle.terms.specs.declared.Entry.{Entry}
use Rattle.table.specs.Store.{Store, in_use}
use Rattle.table.specs.Entries.{entry_in, run_of, used_in}
use Rattle.cone.specs.Rule.{cut}
use Rattle.cutting.specs.Rows.{rows_of}
use Rattle.insert_write.specs.Merged.{merged_with}
-- the later entries and the later used slots, as they are moved
unfoldable pub use Rattle.moves.specs.Tail.{raised}
unfoldable pub use Rattle.moves.specs.Slots.{held_of, laid}

-- ---- buffered: "k goes to its rising place in the used slots and held grows by one"

-- the used slots of `held` cells from `at`, with k in its place; the slot after them is written, all others stay
unfoldable pub put_slots : ℕ → ℕ → ℕ → List ℕ → List ℕ
put_slots at held k cells = take at cells ++ (insert_sorted k (take held (drop at cells)) ++ drop (at + held + 1) cells)

-- ---- merged

-- "one rising list, which takes the run's place; later keys move up by B"; cells past the new count stay
unfoldable pub joined_keys : ℕ → ℕ → Entry → List ℕ → ℕ → List ℕ → List ℕ
joined_keys b n x used k keys =
    take x.base.0 keys ++ (merge (run_of keys x) (insert_sorted k used) ++ (take (n - x.end.0) (drop x.end.0 keys) ++ drop (n + b) keys))

abbrev pub merged_keys : Store → ℕ → ℕ → List ℕ
merged_keys σ i k = joined_keys σ.b σ.n (entry_in σ i) (used_in σ i) k σ.keys

-- "the t new segments replace the old one; later entries move by t−1 places"; cells past the new count stay
unfoldable pub merged_table : Store → ℕ → ℕ → ℕ → List ℕ
merged_table σ i k t =
    take (5 * i) σ.table ++
    (rows_of (entry_in σ i).base.0 (cut (in_use σ) (merged_with σ i k)) ++
    (raised (σ.s - (i + 1)) σ.b (drop (5 * (i + 1)) σ.table) ++ drop (5 * (σ.s - 1 + t)) σ.table))

-- the slots below those of the first later segment stay: "a moved segment's old slots are not cleared"
unfoldable pub slots_up : ℕ → ℕ → List ℕ → ℕ → ℕ → List ℕ → List ℕ
slots_up b s table i t buffers =
    take ((i + t) * b) buffers ++ laid b (held_of (s - (i + 1)) (drop (5 * (i + 1)) table)) (drop ((i + 1) * b) buffers) (drop ((i + t) * b) buffers)

abbrev pub merged_slots : Store → ℕ → ℕ → List ℕ
merged_slots σ i t = slots_up σ.b σ.s σ.table i t σ.buffers
