-- What each answer of lookup means, with no search in it: 01's words as a relation between a store, a key and an answer.
use Rattle.std.specs.Prelude.{Result, Ok, Err}
use Rattle.terms.specs.declared.Refusal.{Refusal}
use Rattle.std.specs.Prelude.{◌≡◌, ℕ, ◌+◌, ◌*◌, ◌<◌, get_or}
use Rattle.terms.specs.Limits.{key_of}
use Rattle.terms.specs.Keys.{IsKey, NoKey}
use Rattle.terms.specs.declared.Refusal.TheVariants.{Limits as OutOfLimits, LargeKey, StoreWrong}
use Rattle.table.specs.Store.{Store, in_use}
use Rattle.table.specs.Limits.{Limits}
use Rattle.table.specs.Entries.{entry_in}
use Rattle.table.specs.Damaged.{Sound}
use Rattle.choose.specs.Chosen.{Chosen}
use Rattle.line.specs.Meaning.{Near}
use Rattle.scan.specs.Meaning.{NoneIn, Lowest}
use Rattle.answers.specs.declared.Looked.{Looked}
use Rattle.answers.specs.declared.Looked.TheVariants.{InRun, InBuffer, Absent}

-- neither refusal 1 nor 2 is due, and segment i is the one chosen for k
pub record Asked (σ : Store) (k i : ℕ) : Type 0 where
  pub limits : Limits σ
  pub key : IsKey k
  pub chosen : Chosen σ.table σ.s k i

-- nor is 9: its entry is not damaged
pub record Taken (σ : Store) (k i : ℕ) : Type 0 where
  pub asked : Asked σ k i
  pub sound : Sound σ.b σ.n (entry_in σ i)

-- position p is in segment i's window for k, and its key is k
pub record Stands (σ : Store) (k i p : ℕ) : Type 0 where
  pub near : Near (in_use σ) (entry_in σ i) (key_of k) p
  pub is : get_or σ.keys p 0 ≡ k

-- slot j of segment i holds k
abbrev pub Waits : Store → ℕ → ℕ → ℕ → Type 0
Waits σ k i j = get_or σ.buffers (i * σ.b + j) 0 ≡ k

-- "the lowest window position with key k"
pub record Running (σ : Store) (k p : ℕ) : Type 0 where
  pub segment : ℕ
  pub taken : Taken σ k segment
  pub here : Stands σ k segment p
  pub first : (q : ℕ) → q < p → Stands σ k segment q → ⊥

-- "else the lowest used buffer slot with k"
pub record Waiting (σ : Store) (k i j : ℕ) : Type 0 where
  pub taken : Taken σ k i
  pub not_running : (q : ℕ) → Stands σ k i q → ⊥
  pub lowest : Lowest (Waits σ k i) 0 (entry_in σ i).held j

-- "else absent"
pub record Missing (σ : Store) (k : ℕ) : Type 0 where
  pub segment : ℕ
  pub taken : Taken σ k segment
  pub not_running : (q : ℕ) → Stands σ k segment q → ⊥
  pub not_waiting : NoneIn (Waits σ k segment) 0 (entry_in σ segment).held

-- the answers, and the refusals in 01's order: 1, 2, 9
pub data Answers (σ : Store) (k : ℕ) : Result Looked Refusal → Type 0 where
  in_run : {p : ℕ} → Running σ k p → Answers σ k (Ok (InRun (record { 0 = p })))
  in_buffer : {i j : ℕ} → Waiting σ k i j → Answers σ k (Ok (InBuffer i j))
  absent : Missing σ k → Answers σ k (Ok Absent)
  refused_1 : (Limits σ → ⊥) → Answers σ k (Err OutOfLimits)
  refused_2 : Limits σ → NoKey k → Answers σ k (Err (LargeKey (record { 0 = 0 })))
  refused_9 : {i : ℕ} → Asked σ k i → (Sound σ.b σ.n (entry_in σ i) → ⊥) → Answers σ k (Err (StoreWrong i))
