-- What insert answers on an accepted store: 9 and 1 are not among the answers, and 5 is given where the plain list has the key.
use Rattle.std.specs.Prelude.{Result, Ok, Err}
use Rattle.std.specs.Prelude.{◌≡◌, ℕ, ◌+◌, ◌-◌, ◌≤◌, ◌<◌}
use Rattle.lists.specs.Rising.{In}
use Rattle.lists.specs.Merge.{place_of}
use Rattle.terms.specs.Keys.{IsKey, NoKey}
use Rattle.terms.specs.declared.Refusal.{Refusal}
use Rattle.terms.specs.declared.Refusal.TheVariants.{Limits, LargeKey, NotRising, Backwards, Present, KeyRoom, SegmentRoom, OutRoom, StoreWrong, Malformed, BadLine}
use Rattle.table.specs.Store.{Store}
use Rattle.table.specs.Limits.{key_room, segment_room}
use Rattle.table.specs.Entries.{entry_in, used_in}
use Rattle.choose.specs.Chosen.{Chosen}
use Rattle.table.specs.Reads.{reads}
use Rattle.answers.specs.declared.Inserted.{Inserted}
use Rattle.answers.specs.declared.Inserted.TheVariants.{Buffered, Merged}
use Rattle.insert_write.specs.Merged.{pieces_of}

-- k is a key, the store does not have it, and segment i is the one chosen for it
pub record Wanted (σ : Store) (k i : ℕ) : Type 0 where
  pub small : IsKey k
  pub chosen : Chosen σ.table σ.s k i
  pub other : In k (reads σ) → ⊥

-- "If held+1 = B a merge is due"
pub record Due (σ : Store) (k i : ℕ) : Type 0 where
  pub wanted : Wanted σ k i
  pub full : (entry_in σ i).held + 1 ≡ σ.b

-- the reason of each answer: the key, then what the plain list says, then the room
pub data Outcome (σ : Store) (k : ℕ) : Result Inserted Refusal → Type 0 where
  -- 2: "a key given is not below 2^44"
  large : NoKey k → Outcome σ k (Err (LargeKey (record { 0 = 0 })))
  -- 5, where the plain list has k
  present : IsKey k → In k (reads σ) → Outcome σ k (Err Present)
  -- "If held+1 < B, k goes to its rising place in the used slots"
  buffered : {i : ℕ} → Wanted σ k i → (entry_in σ i).held + 1 < σ.b → Outcome σ k (Ok (Buffered i (place_of k (used_in σ i))))
  -- 6: "merge due and n+B above key room"
  no_keys : {i : ℕ} → Due σ k i → key_room σ.keys < σ.n + σ.b → Outcome σ k (Err KeyRoom)
  -- 7: "result needs more segments than segment room"
  no_segments : {i : ℕ} → Due σ k i → σ.n + σ.b ≤ key_room σ.keys → segment_room σ.b σ.table σ.buffers < σ.s - 1 + pieces_of σ i k → Outcome σ k (Err SegmentRoom)
  merged :
      {i : ℕ} → Due σ k i → σ.n + σ.b ≤ key_room σ.keys → σ.s - 1 + pieces_of σ i k ≤ segment_room σ.b σ.table σ.buffers
      → Outcome σ k (Ok (Merged i (pieces_of σ i k) (σ.n + σ.b) (σ.s - 1 + pieces_of σ i k)))

-- ---- what each answer says of an accepted store: no refusal but 2, 5, 6 and 7 is given

-- a merge is due, and the keys, or the segments, would not fit
pub record Crowded (σ : Store) (k : ℕ) : Type 0 where
  pub segment : ℕ
  pub due : Due σ k segment
  pub over : key_room σ.keys < σ.n + σ.b

pub record Cramped (σ : Store) (k : ℕ) : Type 0 where
  pub segment : ℕ
  pub due : Due σ k segment
  pub over : segment_room σ.b σ.table σ.buffers < σ.s - 1 + pieces_of σ segment k

abbrev pub Because : Store → ℕ → Refusal → Type 0
Because σ k Limits = ⊥
Because σ k (LargeKey p) = NoKey k
Because σ k (NotRising p) = ⊥
Because σ k Backwards = ⊥
Because σ k Present = In k (reads σ)
Because σ k KeyRoom = Crowded σ k
Because σ k SegmentRoom = Cramped σ k
Because σ k OutRoom = ⊥
Because σ k (StoreWrong i) = ⊥
Because σ k (Malformed at) = ⊥
Because σ k (BadLine l) = ⊥

abbrev pub Says : Store → ℕ → Result Inserted Refusal → Type 0
Says σ k (Ok (Buffered i j)) = Wanted σ k i
Says σ k (Ok (Merged i t n s)) = Due σ k i
Says σ k (Err r) = Because σ k r
