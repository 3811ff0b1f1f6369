-- What an answer of lookup says of a key: that the store has it, and where.
use Rattle.std.specs.Prelude.{Result, Ok, Err}
use Rattle.terms.specs.declared.Refusal.{Refusal}
use Rattle.std.specs.Prelude.{◌≡◌, ℕ, ◌+◌, ◌*◌, ◌<◌, get_or}
use Rattle.table.specs.Store.{Store}
use Rattle.table.specs.Entries.{entry_in}
use Rattle.answers.specs.declared.Looked.{Looked}
use Rattle.answers.specs.declared.Looked.TheVariants.{InRun, InBuffer, Absent}

-- the answer names a place
abbrev pub Finds : Result Looked Refusal → Type 0
Finds (Ok (InRun p)) = Unit
Finds (Ok (InBuffer i j)) = Unit
Finds (Ok Absent) = ⊥
Finds (Err r) = ⊥

-- position p of the key slice is one of the n, and holds k
pub record AtPosition (σ : Store) (k p : ℕ) : Type 0 where
  pub inside : p < σ.n
  pub is : get_or σ.keys p 0 ≡ k

-- slot j of segment i is used, and holds k
pub record AtSlot (σ : Store) (k i j : ℕ) : Type 0 where
  pub segment : i < σ.s
  pub used : j < (entry_in σ i).held
  pub is : get_or σ.buffers (i * σ.b + j) 0 ≡ k

-- and the place holds the key
abbrev pub Holds : Store → ℕ → Result Looked Refusal → Type 0
Holds σ k (Ok (InRun p)) = AtPosition σ k p.0
Holds σ k (Ok (InBuffer i j)) = AtSlot σ k i j
Holds σ k (Ok Absent) = ⊥
Holds σ k (Err r) = ⊥
