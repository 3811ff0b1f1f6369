-- 01, "Lookup": "Choose; refuse if that entry is damaged." The one definition of what a call knows of the table.
use Rattle.std.specs.Prelude.{Result, Ok, Err}
use Rattle.terms.specs.declared.Refusal.{Refusal}
use Rattle.terms.specs.declared.Refusal.TheVariants.{StoreWrong}
use Rattle.std.specs.Prelude.{◌≡◌, true, List, ℕ, ◌<◌}
use Rattle.lists.specs.Tests.{pick}
use Rattle.terms.specs.declared.Sizes.{Sizes}
use Rattle.terms.specs.declared.Entry.{Entry}
use Rattle.table.specs.Store.{Store, sizes_in}
use Rattle.table.specs.Entries.{entry_of}
use Rattle.table.specs.Damaged.{damaged_of, Sound}
use Rattle.choose.specs.Chosen.{chosen_of}

-- segment i, whose entry is x
abbrev pub judged_of : Sizes → ℕ → Entry → Result (ℕ × Entry) Refusal
judged_of z i x = pick (damaged_of z.b z.n x) (Err (StoreWrong i)) (Ok (i, x))

unfoldable pub picked_of : Sizes → List ℕ → ℕ → Result (ℕ × Entry) Refusal
picked_of z t k = judged_of z (chosen_of t z.s k) (entry_of z.n z.s t (chosen_of t z.s k))

-- of a store
abbrev pub picked_in : Store → ℕ → Result (ℕ × Entry) Refusal
picked_in σ k = picked_of (sizes_in σ) σ.table k

-- what each answer says
pub record Picks (z : Sizes) (t : List ℕ) (k i : ℕ) (x : Entry) : Type 0 where
  pub chosen : i ≡ chosen_of t z.s k
  pub entry : x ≡ entry_of z.n z.s t i
  pub inside : i < z.s
  pub sound : Sound z.b z.n x

pub record Breaks (z : Sizes) (t : List ℕ) (k i : ℕ) : Type 0 where
  pub chosen : i ≡ chosen_of t z.s k
  pub damaged : damaged_of z.b z.n (entry_of z.n z.s t i) ≡ true

abbrev pub Told : Sizes → List ℕ → ℕ → Result (ℕ × Entry) Refusal → Type 0
Told z t k (Ok (i, x)) = Picks z t k i x
Told z t k (Err r) = (i : ℕ) × (r ≡ StoreWrong i) × Breaks z t k i
