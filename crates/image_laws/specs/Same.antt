-- Two lent stores that are one store: the same numbers and the same used cells, whatever else stands in the slices.
use Rattle.std.specs.Prelude.{◌≡◌, ℕ, ◌+◌, ◌*◌, ◌<◌, get_or}
use Rattle.table.specs.Store.{Store}
use Rattle.table.specs.Entries.{entry_in}

pub record Same (σ τ : Store) : Type 0 where
  pub e_same : σ.e ≡ τ.e
  pub b_same : σ.b ≡ τ.b
  pub n_same : σ.n ≡ τ.n
  pub s_same : σ.s ≡ τ.s
  -- the n keys
  pub keys_same : (p : ℕ) → p < σ.n → get_or σ.keys p 0 ≡ get_or τ.keys p 0
  -- the 5·s table cells
  pub table_same : (p : ℕ) → p < 5 * σ.s → get_or σ.table p 0 ≡ get_or τ.table p 0
  -- each segment's held slots
  pub slots_same : (i j : ℕ) → i < σ.s → j < (entry_in σ i).held → get_or σ.buffers (i * σ.b + j) 0 ≡ get_or τ.buffers (i * σ.b + j) 0
