-- What each answer of range means, with no walk in it: 01's words as a relation between a store, two ends, the out slice's length and an answer.
use Rattle.std.specs.Prelude.{Result, Ok, Err}
use Rattle.terms.specs.declared.Refusal.{Refusal}
use Rattle.std.specs.Prelude.{◌≡◌, List, ◌⊎◌, ℕ, suc, ◌-◌, ◌≤◌, ◌<◌, length, get_or}
use Rattle.lists.specs.Rising.{In}
use Rattle.lists.specs.Between.{between}
use Rattle.terms.specs.Keys.{IsKey, NoKey}
use Rattle.terms.specs.declared.Refusal.TheVariants.{Limits as OutOfLimits, LargeKey, Backwards, OutRoom, StoreWrong}
use Rattle.table.specs.Store.{Store}
use Rattle.table.specs.Limits.{Limits}
use Rattle.table.specs.Entries.{entry_in}
use Rattle.table.specs.Damaged.{Sound}
use Rattle.choose.specs.Chosen.{Chosen}
use Rattle.table.specs.Reads.{merged_in, stretch_of}

-- none of the refusals 1, 2 and 4 is due, and "the stretch runs from the segment chosen for low to that chosen for high": from a to z
pub record Asked (σ : Store) (low high a z : ℕ) : Type 0 where
  pub limits : Limits σ
  pub low_key : IsKey low
  pub high_key : IsKey high
  pub forwards : low ≤ high
  pub from : Chosen σ.table σ.s low a
  pub to : Chosen σ.table σ.s high z

-- segment i of a stretch that starts at segment a is not "damaged", has no "merged key out of limits", and none "not above the key before it in the
-- stretch": of the joined merged lists of the segments from a to i, its keys are those from the length of the lists before it on
pub record Fine (σ : Store) (a i : ℕ) : Type 0 where
  pub sound : Sound σ.b σ.n (entry_in σ i)
  pub small : (k : ℕ) → In k (merged_in σ i) → IsKey k
  pub above : (p : ℕ) → length (stretch_of σ a (i - a)) ≤ suc p → suc p < length (stretch_of σ a (suc i - a)) →
      get_or (stretch_of σ a (suc i - a)) p 0 < get_or (stretch_of σ a (suc i - a)) (suc p) 0

-- nor is 9: no segment of the stretch is wrong
pub record Right (σ : Store) (low high a z : ℕ) : Type 0 where
  pub asked : Asked σ low high a z
  pub fine : (i : ℕ) → a ≤ i → i ≤ z → Fine σ a i

-- "these are joined, and the keys from low to high"
abbrev pub list_of : Store → ℕ → ℕ → ℕ → ℕ → List ℕ
list_of σ low high a z = between low high (stretch_of σ a (suc z - a))

-- there is room for them, and m is "their number"
pub record Held (σ : Store) (low high room m : ℕ) : Type 0 where
  pub first : ℕ
  pub last : ℕ
  pub right : Right σ low high first last
  pub number : m ≡ length (list_of σ low high first last)
  pub fits : m ≤ room

-- 8: "result longer than the out slice"
pub record Long (σ : Store) (low high room : ℕ) : Type 0 where
  pub first : ℕ
  pub last : ℕ
  pub right : Right σ low high first last
  pub longer : room < length (list_of σ low high first last)

-- 9: i is "the lowest segment of the stretch" that is wrong
pub record Wrong (σ : Store) (low high i : ℕ) : Type 0 where
  pub first : ℕ
  pub last : ℕ
  pub asked : Asked σ low high first last
  pub from : first ≤ i
  pub to : i ≤ last
  pub wrong : Fine σ first i → ⊥
  pub before : (j : ℕ) → first ≤ j → j < i → Fine σ first j

-- the answer, and the refusals in 01's order: 1, 2, 4, 9, 8
pub data Answers (σ : Store) (low high room : ℕ) : Result ℕ Refusal → Type 0 where
  listed : {m : ℕ} → Held σ low high room m → Answers σ low high room (Ok m)
  refused_1 : (Limits σ → ⊥) → Answers σ low high room (Err OutOfLimits)
  refused_2 : Limits σ → (NoKey low) ⊎ (NoKey high) → Answers σ low high room (Err (LargeKey (record { 0 = 0 })))
  refused_4 : Limits σ → IsKey low → IsKey high → high < low → Answers σ low high room (Err Backwards)
  refused_9 : {i : ℕ} → Wrong σ low high i → Answers σ low high room (Err (StoreWrong i))
  refused_8 : Long σ low high room → Answers σ low high room (Err OutRoom)
