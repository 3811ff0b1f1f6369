-- Demand 3, covering: "every read is covered by exactly one segment".
use Rattle.std.specs.Prelude.{◌≡◌, ℕ, ◌+◌, ◌≤◌, ◌<◌}
use Rattle.lists.specs.Rising.{In}
use Rattle.table.specs.Store.{Store}
use Rattle.table.specs.Entries.{entry_in}
use Rattle.table.specs.Reads.{merged_in}

-- exactly one number has the property
pub record One (P : ℕ → Type 0) : Type 0 where
  pub which : ℕ
  pub has : P which
  pub alone : (j : ℕ) → P j → j ≡ which

-- position p of the key slice is in the run of segment i
pub record InRun (σ : Store) (p i : ℕ) : Type 0 where
  pub segment : i < σ.s
  pub from_base : (entry_in σ i).base.0 ≤ p
  pub before_end : p < (entry_in σ i).end.0

-- k is one of segment i's reads, in its run or its used slots
pub record InSegment (σ : Store) (k i : ℕ) : Type 0 where
  pub segment : i < σ.s
  pub held : In k (merged_in σ i)

-- the runs lie end to end over the n positions
pub record EndToEnd (σ : Store) : Type 0 where
  pub begins : (entry_in σ 0).base.0 ≡ 0
  pub meets : (i : ℕ) → i + 1 < σ.s → (entry_in σ i).end.0 ≡ (entry_in σ (i + 1)).base.0
  pub ends : (i : ℕ) → i + 1 ≡ σ.s → (entry_in σ i).end.0 ≡ σ.n
  pub rises : (i j : ℕ) → i < j → j < σ.s → (entry_in σ i).base.0 < (entry_in σ j).base.0
