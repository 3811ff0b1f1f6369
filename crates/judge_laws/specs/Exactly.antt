-- The rules with the line worked exactly, in place of "each key of the run lies in its own window".
use Rattle.std.specs.Prelude.{◌≡◌, ℕ, ◌+◌, ◌≤◌, ◌<◌, get_or}
use Rattle.lists.specs.Rising.{In}
use Rattle.terms.specs.Limits.{key_of}
use Rattle.terms.specs.Keys.{RisingKeys}
use Rattle.table.specs.Store.{Store, in_use}
use Rattle.table.specs.Entries.{entry_in, run_in, used_in}
use Rattle.table.specs.Damaged.{Sound}
use Rattle.table.specs.Reads.{merged_in}
use Rattle.line.specs.Meaning.{Exact}

-- every rule of segment i but that of the windows, each as in `Rules`
pub record OtherRules (σ : Store) (i : ℕ) : Type 0 where
  pub sound : Sound σ.b σ.n (entry_in σ i)
  pub nought : i ≡ 0 → (entry_in σ i).base.0 ≡ 0
  pub first : get_or σ.keys (entry_in σ i).base.0 0 ≡ (entry_in σ i).first.0
  pub rising : RisingKeys (merged_in σ i)
  pub not_before : 0 < i → (k : ℕ) → In k (used_in σ i) → (entry_in σ i).first.0 ≤ k
  pub run_apart : i + 1 < σ.s → (k : ℕ) → In k (run_in σ i) → k < (entry_in σ (i + 1)).first.0
  pub used_apart : i + 1 < σ.s → (k : ℕ) → In k (used_in σ i) → k < (entry_in σ (i + 1)).first.0

-- segment i's line misses no read in its run by more than e, worked exactly
abbrev pub Exactly : Store → ℕ → Type 0
Exactly σ i = (p : ℕ) → (entry_in σ i).base.0 ≤ p → p < (entry_in σ i).end.0 → Exact (in_use σ) (entry_in σ i) (key_of (get_or σ.keys p 0)) p
