-- What an insert leaves in the three slices, every cell of them, by its answer; and the store that they then are.
use Rattle.std.specs.Prelude.{Result, Ok, Err}
use Rattle.terms.specs.declared.Refusal.{Refusal}
use Rattle.std.specs.Prelude.{List, ℕ, ◌+◌, ◌*◌, set}
use Rattle.terms.specs.Limits.{sizes_of}
use Rattle.table.specs.Store.{Store, store_of}
use Rattle.table.specs.Entries.{entry_in}
use Rattle.insert_write.specs.Cells.{put_slots, merged_keys, merged_table, merged_slots}
use Rattle.answers.specs.declared.Inserted.{Inserted}
use Rattle.answers.specs.declared.Inserted.TheVariants.{Buffered, Merged}

-- ---- by the answer: "no lent slice differs from before the call" where it is a refusal

abbrev pub keys_by : Result Inserted Refusal → Store → ℕ → List ℕ
keys_by (Ok (Buffered i j)) σ k = σ.keys
keys_by (Ok (Merged i t n s)) σ k = merged_keys σ i k
keys_by (Err r) σ k = σ.keys

abbrev pub table_by : Result Inserted Refusal → Store → ℕ → List ℕ
table_by (Ok (Buffered i j)) σ k = set σ.table (5 * i + 4) ((entry_in σ i).held + 1)
table_by (Ok (Merged i t n s)) σ k = merged_table σ i k t
table_by (Err r) σ k = σ.table

abbrev pub buffers_by : Result Inserted Refusal → Store → ℕ → List ℕ
buffers_by (Ok (Buffered i j)) σ k = put_slots (i * σ.b) (entry_in σ i).held k σ.buffers
buffers_by (Ok (Merged i t n s)) σ k = merged_slots σ i t
buffers_by (Err r) σ k = σ.buffers

-- the store after the call
abbrev pub n_by : Result Inserted Refusal → Store → ℕ
n_by (Ok (Buffered i j)) σ = σ.n
n_by (Ok (Merged i t n s)) σ = n
n_by (Err r) σ = σ.n

abbrev pub s_by : Result Inserted Refusal → Store → ℕ
s_by (Ok (Buffered i j)) σ = σ.s
s_by (Ok (Merged i t n s)) σ = s
s_by (Err r) σ = σ.s

abbrev pub store_by : Result Inserted Refusal → Store → ℕ → Store
store_by a σ k = store_of (sizes_of σ.e σ.b (n_by a σ) (s_by a σ)) (keys_by a σ k) (table_by a σ k) (buffers_by a σ k)
