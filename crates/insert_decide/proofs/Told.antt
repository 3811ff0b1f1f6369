-- What an answer says: the slot is the rising place, or the merged list rises and its segments are few.
-- Assumes nothing.
use Rattle.std.specs.Prelude.{Option, Some, None, Result, Ok}
use mathlib.Core.Path.{◌≡◌, refl, sym}
use mathlib.Core.Bool.{true}
use mathlib.Core.List.{List}
use Prim.Native.Nat.{ℕ, ◌+◌, ◌-◌, ◌*◌, ◌≤◌}
use native.Mathlib.Nat.{mul-le-mul}
use native.Mathlib.Omega.{arith}
use lib.Dec.{ltb}
use lib.ListN.{length}
use Rattle.lists.specs.Merge.{place_of, merge, insert_sorted}
use Rattle.lists.proofs.Merging.{length_merge, length_insert}
use borrow.Author.Tests.{ltb-true, ltb-false}
use Rattle.lists.proofs.Tests.{pick_cases}
use Rattle.terms.specs.Limits.{cut_most}
use Rattle.terms.specs.Keys.{rising_keys}
use Rattle.terms.specs.declared.Key.{Key}
use Rattle.terms.specs.declared.Entry.{Entry}
use Rattle.terms.specs.declared.Refusal.{Refusal}
use Rattle.terms.proofs.Keys.{rising_true}
use Rattle.line.specs.Line.{reach_of}
use Rattle.scan.specs.Scan.{lowest_of}
use Rattle.cone.specs.Rule.{cut}
use Rattle.cone.proofs.Cover.{few}
use Rattle.insert_pieces.specs.Judged.{cutting_of, Judgeable}
use Rattle.insert_pieces.proofs.Laws.{cut_rises}
use Rattle.insert_decide.specs.declared.Weighed.{Weighed}
use Rattle.insert_decide.specs.declared.Weighed.TheVariants.{Pieces}
use Rattle.insert_decide.specs.Weighed.{cut_for, unless_at, rest_of, weighed_of, Weighable, Parted, Told}
use Rattle.insert_decide.proofs.Weighing.{pieces_asks}

module _ (i e b : ℕ) (x : Entry) (run used : List ℕ) (k : Key) (asked : Weighable e b x run used k) where
  abbrev ks : List ℕ
  ks = merge run (insert_sorted k.0 used)

  judgeable : Judgeable e run used
  judgeable = pieces_asks e b x run used k asked

  ks_length : length ks ≡ length run + (length used + 1)
  ks_length = omega (arith, length_merge run (insert_sorted k.0 used), length_insert k.0 used)

  few_cut : rising_keys ks ≡ true → length (cut e ks) ≤ cut_most
  few_cut up =
      let f : (length (cut e ks) - 1) * (e + 2) + 1 ≤ length ks =
      few ks (record { bound = judgeable.bound; few = omega (arith, judgeable.few, ks_length); rising = rising_true ks up }) (omega (arith, ks_length)) in
      let m : (length (cut e ks) - 1) * 1 ≤ (length (cut e ks) - 1) * (e + 2) = mul-le-mul (le_self (length (cut e ks) - 1)) (one e) in
      omega (arith, judgeable.few, ks_length)
    where
      le_self : (a : ℕ) → a ≤ a
      le_self a = omega arith

      one : (a : ℕ) → 1 ≤ a + 2
      one a = omega arith

  abbrev Tells : Result Weighed Refusal → Type 0
  Tells a = Told e b x run used k a

  cut_told : b ≤ x.held + 1 → (c : Option ℕ) → cutting_of e ks ≡ c → Tells (cut_for i c)
  cut_told full (Some t) q =
      let h = cut_rises e ks q in record { full = full; rising = rising_true ks h.0; pieces = h.1; few = omega (arith, h.1, few_cut h.0) }
  cut_told full None q = tt

  rest_told : (f g : Option ℕ) → Tells (unless_at f (unless_at g (rest_of i e b x.held (place_of k.0 used) run used k.0)))
  unfolding rest_of
  rest_told (Some p) g = tt
  rest_told None (Some j) = tt
  rest_told None None =
      pick_cases Tells (ltb (x.held + 1) b) _ _ (λ t. record { free = ltb-true _ _ t; place = refl }) (λ t. cut_told (ltb-false _ _ t) (cutting_of e ks) refl)

  pub weighed_told : Told e b x run used k (weighed_of i e b x run used k)
  unfolding weighed_of
  weighed_told =
      pick_cases Tells (rising_keys used) _ _
      (λ t. rest_told (lowest_of run (reach_of e x k).from ((reach_of e x k).to - (reach_of e x k).from) k.0) (lowest_of used 0 (length used) k.0))
      (λ t. tt)

  pub pieces_told : {t : ℕ} → Ok (Pieces t) ≡ weighed_of i e b x run used k → Parted e b x run used k t
  pieces_told is = let h : Told e b x run used k (weighed_of i e b x run used k) = weighed_told in rw (sym is) at h
