-- What each answer says of the slots, read back.
-- Assumes nothing.
use Rattle.std.specs.Prelude.{Option, Some, None, Result, Ok, Err}
use mathlib.Core.Path.{◌≡◌, refl, sym, ◌∙◌}
use mathlib.Core.Bool.{Bool, true, false}
use mathlib.Core.List.{List}
use Prim.Native.Nat.{ℕ}
use native.Mathlib.Omega.{arith}
use lib.ListN.{length}
use Rattle.lists.specs.Tests.{pick}
use Rattle.lists.specs.Merge.{place_of}
use Rattle.terms.specs.Keys.{rising_keys}
use Rattle.scan.specs.Scan.{lowest_of, none_of}
use Rattle.terms.specs.declared.Refusal.{Refusal}
use Rattle.terms.specs.declared.Refusal.TheVariants.{Present, StoreWrong}
use Rattle.insert_seat.specs.Seat.{seat_by, seat_of}

module _ (i k : ℕ) (used : List ℕ) {r : Result ℕ Refusal} (is : r ≡ seat_of i k used) where
  pub unruly_falls : {j : ℕ} → r ≡ Err (StoreWrong j) → rising_keys used ≡ false
  unfolding seat_of
  unruly_falls {j} q = go (rising_keys used) (lowest_of used 0 (length used) k) refl (sym is ∙ q)
    where
      go : (t : Bool) (f : Option ℕ) → rising_keys used ≡ t → pick t (seat_by f (place_of k used)) (Err (StoreWrong i)) ≡ Err (StoreWrong j) → rising_keys used ≡ false
      go true (Some m) e p = absurd (let z : ◌≡◌ {A = ℕ} 0 1 = cc in omega arith)
      go true None e p = absurd (let z : ◌≡◌ {A = ℕ} 0 1 = cc in omega arith)
      go false f e p = e

  pub taken_there : r ≡ Err Present → (rising_keys used ≡ true) × (none_of (lowest_of used 0 (length used) k) ≡ false)
  unfolding seat_of
  taken_there q = go (rising_keys used) (lowest_of used 0 (length used) k) refl refl (sym is ∙ q)
    where
      go :
          (t : Bool) (f : Option ℕ) → rising_keys used ≡ t → lowest_of used 0 (length used) k ≡ f → pick t (seat_by f (place_of k used)) (Err (StoreWrong i)) ≡ Err Present
          → (rising_keys used ≡ true) × (none_of (lowest_of used 0 (length used) k) ≡ false)
      go true (Some j) e f p = (e, rw f refl)
      go true None e f p = absurd (let z : ◌≡◌ {A = ℕ} 0 1 = cc in omega arith)
      go false f e g p = absurd (let z : ◌≡◌ {A = ℕ} 0 1 = cc in omega arith)

  pub free_none : {p : ℕ} → r ≡ Ok p → (rising_keys used ≡ true) × ((lowest_of used 0 (length used) k ≡ None) × (p ≡ place_of k used))
  unfolding seat_of
  free_none {p} q = go (rising_keys used) (lowest_of used 0 (length used) k) refl refl (sym is ∙ q)
    where
      go :
          (t : Bool) (f : Option ℕ) → rising_keys used ≡ t → lowest_of used 0 (length used) k ≡ f → pick t (seat_by f (place_of k used)) (Err (StoreWrong i)) ≡ Ok p
          → (rising_keys used ≡ true) × ((lowest_of used 0 (length used) k ≡ None) × (p ≡ place_of k used))
      go true (Some j) e f w = absurd (let z : ◌≡◌ {A = ℕ} 0 1 = cc in omega arith)
      go true None e f w = (e, (f, cc))
      go false f e g w = absurd (let z : ◌≡◌ {A = ℕ} 0 1 = cc in omega arith)
