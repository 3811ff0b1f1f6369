-- Demand 3: "Altering stored reads outside the bound round the guess and outside that segment's buffer, table untouched".
use Rattle.std.specs.Prelude.{◌≡◌, List, ℕ, ◌+◌, ◌*◌, ◌<◌, length, get_or}
use Rattle.terms.specs.Limits.{key_of}
use Rattle.table.specs.Store.{Store, in_use}
use Rattle.table.specs.Entries.{entry_in}
use Rattle.choose.specs.Chosen.{chosen_of}
use Rattle.line.specs.Meaning.{Near}

-- the store with other reads in its slices: table and numbers untouched
abbrev pub altered : Store → List ℕ → List ℕ → Store
altered σ keys buffers = record { e = σ.e; b = σ.b; n = σ.n; s = σ.s; keys = keys; table = σ.table; buffers = buffers }

-- slices of the same lengths, with the same keys at the window's positions and in the chosen segment's used slots; elsewhere they may hold anything
pub record Alike (σ : Store) (keys buffers : List ℕ) (k : ℕ) : Type 0 where
  pub keys_length : length keys ≡ length σ.keys
  pub buffers_length : length buffers ≡ length σ.buffers
  pub near : (p : ℕ) → Near (in_use σ) (entry_in σ (chosen_of σ.table σ.s k)) (key_of k) p → get_or keys p 0 ≡ get_or σ.keys p 0
  pub used :
      (j : ℕ) → j < (entry_in σ (chosen_of σ.table σ.s k)).held
      → get_or buffers (chosen_of σ.table σ.s k * σ.b + j) 0 ≡ get_or σ.buffers (chosen_of σ.table σ.s k * σ.b + j) 0
