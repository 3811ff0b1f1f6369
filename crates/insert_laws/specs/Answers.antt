-- What each answer of insert means, with no search in it: 01's words as a relation between a store, a key and an answer.
use Rattle.std.specs.Prelude.{Result, Ok, Err}
use Rattle.terms.specs.declared.Refusal.{Refusal}
use Rattle.std.specs.Prelude.{◌≡◌, List, ℕ, suc, ◌+◌, ◌-◌, ◌≤◌, ◌<◌, length, get_or}
use Rattle.terms.specs.Keys.{NoKey, RisingKeys}
use Rattle.terms.specs.declared.Refusal.TheVariants.{Limits as OutOfLimits, LargeKey, Present, KeyRoom, SegmentRoom, StoreWrong}
use Rattle.table.specs.Store.{Store}
use Rattle.table.specs.Limits.{Limits, key_room, segment_room}
use Rattle.table.specs.Entries.{entry_in, used_in}
use Rattle.table.specs.Damaged.{Sound}
use Rattle.scan.specs.Meaning.{NoneIn, Lowest}
use Rattle.lookup_laws.specs.Answers.{Asked, Taken, Stands, Waits, Running, Waiting}
use Rattle.answers.specs.declared.Inserted.{Inserted}
use Rattle.answers.specs.declared.Inserted.TheVariants.{Buffered, Merged}
use Rattle.insert_write.specs.Merged.{merged_with, pieces_of, Passes}

-- refusals 1, 2 and 9 for the entry are not due (`Taken`), nor is 9 for the buffer: "its used buffer not strictly rising and below 2^44"
pub record Judged (σ : Store) (k i : ℕ) : Type 0 where
  pub taken : Taken σ k i
  pub used_rises : RisingKeys (used_in σ i)

-- nor is 5: "lookup finds k"
pub record New (σ : Store) (k i : ℕ) : Type 0 where
  pub judged : Judged σ k i
  pub not_running : (q : ℕ) → Stands σ k i q → ⊥
  pub not_waiting : NoneIn (Waits σ k i) 0 (entry_in σ i).held

-- k's rising place in a list: what stands before is below k, and what stands there is not
pub record Place (k : ℕ) (xs : List ℕ) (j : ℕ) : Type 0 where
  pub inside : j ≤ length xs
  pub before : (m : ℕ) → m < j → get_or xs m 0 < k
  pub here : j < length xs → k ≤ get_or xs j 0

-- "If held+1 = B a merge is due"
pub record Due (σ : Store) (k i : ℕ) : Type 0 where
  pub new : New σ k i
  pub full : (entry_in σ i).held + 1 ≡ σ.b

-- nor is 9 for the merged list
pub record Rising (σ : Store) (k i : ℕ) : Type 0 where
  pub due : Due σ k i
  pub rises : RisingKeys (merged_with σ i k)

-- nor is 9 for a later entry
pub record Ready (σ : Store) (k i : ℕ) : Type 0 where
  pub rising : Rising σ k i
  pub later : NoneIn (λ j. Passes σ j → ⊥) (suc i) σ.s

-- the answers, and the refusals in 01's order: 1, 2, 9 (entry, buffer), 5, 9 (merge), 6, 7
pub data Answers (σ : Store) (k : ℕ) : Result Inserted Refusal → Type 0 where
  -- "If held+1 < B, k goes to its rising place in the used slots"
  buffered : {i j : ℕ} → New σ k i → (entry_in σ i).held + 1 < σ.b → Place k (used_in σ i) j → Answers σ k (Ok (Buffered i j))
  -- "The answer is i, t and the new n and s"
  merged :
      {i : ℕ} → Ready σ k i → σ.n + σ.b ≤ key_room σ.keys → σ.s - 1 + pieces_of σ i k ≤ segment_room σ.b σ.table σ.buffers
      → Answers σ k (Ok (Merged i (pieces_of σ i k) (σ.n + σ.b) (σ.s - 1 + pieces_of σ i k)))
  refused_1 : (Limits σ → ⊥) → Answers σ k (Err OutOfLimits)
  refused_2 : Limits σ → NoKey k → Answers σ k (Err (LargeKey (record { 0 = 0 })))
  refused_9_entry : {i : ℕ} → Asked σ k i → (Sound σ.b σ.n (entry_in σ i) → ⊥) → Answers σ k (Err (StoreWrong i))
  refused_9_buffer : {i : ℕ} → Taken σ k i → (RisingKeys (used_in σ i) → ⊥) → Answers σ k (Err (StoreWrong i))
  -- in the run, or in a slot
  refused_5_run : {i p : ℕ} → Judged σ k i → Running σ k p → Answers σ k (Err Present)
  refused_5_slot : {i j : ℕ} → Judged σ k i → Waiting σ k i j → Answers σ k (Err Present)
  refused_9_merged : {i : ℕ} → Due σ k i → (RisingKeys (merged_with σ i k) → ⊥) → Answers σ k (Err (StoreWrong i))
  refused_9_later : {i j : ℕ} → Rising σ k i → Lowest (λ m. Passes σ m → ⊥) (suc i) σ.s j → Answers σ k (Err (StoreWrong j))
  refused_6 : {i : ℕ} → Ready σ k i → key_room σ.keys < σ.n + σ.b → Answers σ k (Err KeyRoom)
  refused_7 :
      {i : ℕ} → Ready σ k i → σ.n + σ.b ≤ key_room σ.keys → segment_room σ.b σ.table σ.buffers < σ.s - 1 + pieces_of σ i k
      → Answers σ k (Err SegmentRoom)
