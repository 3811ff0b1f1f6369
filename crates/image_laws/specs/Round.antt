-- What the two round trips of an image promise.
use Rattle.std.specs.Prelude.{Result, Ok}
use Rattle.terms.specs.declared.Refusal.{Refusal}
use Rattle.terms.specs.Limits.{sizes_of}
use Rattle.std.specs.Prelude.{◌≡◌, List, ◌++◌, ℕ, ◌+◌, ◌*◌, ◌≤◌, ◌<◌, length, get_or, drop}
use Rattle.terms.specs.declared.Sizes.{Sizes}
use Rattle.table.specs.Store.{Store, store_of, sizes_in}
use Rattle.table.specs.Entries.{entry_in}
use Rattle.image_read.specs.Loading.{load_of, keys_by, table_by, buffers_by}
use Rattle.image_write.specs.Writing.{write_of, out_by}
use Rattle.image_laws.specs.Same.{Same}

-- the store that reading leaves in the slices where it answers e, B, n and s
abbrev pub store_read : List ℕ → List ℕ → List ℕ → List ℕ → Sizes → Store
store_read l keys t bs z =
    let a : Result Sizes Refusal = Ok z in store_of z (keys_by a l keys) (table_by a l t) (buffers_by a l bs)

-- reading l gives the store back: its numbers as the answer, and its used cells
pub record Back (σ : Store) (l keys t bs : List ℕ) : Type 0 where
  pub answer : load_of l keys t bs ≡ Ok (sizes_of σ.e σ.b σ.n σ.s)
  pub same : Same σ (store_read l keys t bs (sizes_in σ))

-- writing the store gives the bytes l again, over any out slice with room for them
pub record Again (τ : Store) (l : List ℕ) : Type 0 where
  pub answer : (room : ℕ) → length l ≤ room → write_of τ room ≡ Ok (length l)
  pub bytes : (out : List ℕ) → length l ≤ length out → out_by (Ok (length l)) τ out ≡ l ++ drop (length l) out

-- no cell but the used ones of τ has another content than in the slices given
pub record Kept (τ : Store) (keys t bs : List ℕ) : Type 0 where
  pub keys_kept : (p : ℕ) → τ.n ≤ p → get_or τ.keys p 0 ≡ get_or keys p 0
  pub table_kept : (p : ℕ) → 5 * τ.s ≤ p → get_or τ.table p 0 ≡ get_or t p 0
  pub slots_kept : (q : ℕ) → ((i j : ℕ) → i < τ.s → j < (entry_in τ i).held → q ≡ i * τ.b + j → ⊥) → get_or τ.buffers q 0 ≡ get_or bs q 0
  pub lengths : (length τ.keys ≡ length keys) × (length τ.table ≡ length t) × (length τ.buffers ≡ length bs)
