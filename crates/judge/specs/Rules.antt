-- 01, "Store rules (what the check accepts)": each a rule of one segment, in 01's words and with no test in it.
use Rattle.std.specs.Prelude.{◌≡◌, ℕ, ◌+◌, ◌≤◌, ◌<◌, get_or}
use Rattle.lists.specs.Rising.{In}
use Rattle.terms.specs.Limits.{key_of}
use Rattle.terms.specs.Keys.{RisingKeys}
use Rattle.table.specs.Store.{Store, in_use}
use Rattle.table.specs.Limits.{Limits}
use Rattle.table.specs.Entries.{entry_in, run_in, used_in}
use Rattle.table.specs.Damaged.{Sound}
use Rattle.table.specs.Reads.{merged_in}
use Rattle.line.specs.Meaning.{Near}

pub record Rules (σ : Store) (i : ℕ) : Type 0 where
  -- "the entry is not damaged"
  pub sound : Sound σ.b σ.n (entry_in σ i)
  -- "segment 0 has base 0"
  pub nought : i ≡ 0 → (entry_in σ i).base.0 ≡ 0
  -- "the first key equals the key at base"
  pub first : get_or σ.keys (entry_in σ i).base.0 0 ≡ (entry_in σ i).first.0
  -- "run and used buffer merged are strictly rising and below 2^44"
  pub rising : RisingKeys (merged_in σ i)
  -- "in a segment after 0 no used key is below the first key"
  pub not_before : 0 < i → (k : ℕ) → In k (used_in σ i) → (entry_in σ i).first.0 ≤ k
  -- "no key of the run and no used key reaches the next segment's first key"
  pub run_apart : i + 1 < σ.s → (k : ℕ) → In k (run_in σ i) → k < (entry_in σ (i + 1)).first.0
  pub used_apart : i + 1 < σ.s → (k : ℕ) → In k (used_in σ i) → k < (entry_in σ (i + 1)).first.0
  -- "each key of the run lies in its own window"
  pub windows : (p : ℕ) → (entry_in σ i).base.0 ≤ p → p < (entry_in σ i).end.0 → Near (in_use σ) (entry_in σ i) (key_of (get_or σ.keys p 0)) p

-- a store that the check accepts
pub record Accepted (σ : Store) : Type 0 where
  pub limits : Limits σ
  pub rules : (i : ℕ) → i < σ.s → Rules σ i
