-- The cases of what becomes of a key in its segment.
-- Assumes nothing.
use Rattle.std.specs.Prelude.{Option, Some, None, Result, Ok, Err, ok_or}
use Rattle.std.specs.Option.{is_some}
use mathlib.Core.Path.{◌≡◌, refl, sym, ap, ◌∙◌}
use mathlib.Core.Bool.{Bool, true, false}
use mathlib.Core.List.{List}
use Prim.Native.Nat.{ℕ, ◌+◌, ◌-◌, ◌≤◌, ◌<◌}
use native.Mathlib.Omega.{arith}
use lib.ListN.{length}
use borrow.Author.Tests.{lt-ltb, le-ltb}
use Rattle.lists.specs.Tests.{pick}
use Rattle.lists.specs.Merge.{place_of, merge, insert_sorted}
use Rattle.lists.proofs.Tests.{clash}
use Rattle.terms.specs.Keys.{rising_keys}
use Rattle.terms.specs.declared.Key.{Key}
use Rattle.terms.specs.declared.Entry.{Entry}
use Rattle.terms.specs.declared.Refusal.{Refusal}
use Rattle.terms.specs.declared.Refusal.TheVariants.{Present, StoreWrong}
use Rattle.line.specs.declared.Places.{Places}
use Rattle.line.specs.Line.{reach_of}
use Rattle.line.proofs.Laws.{reach_inside}
use Rattle.scan.specs.Scan.{lowest_of}
use Rattle.insert_seat.specs.Seat.{seat_by, seat_of}
use Rattle.insert_seat.proofs.Answers.{free_none}
use Rattle.insert_pieces.specs.Judged.{cutting_of, Judgeable}
use Rattle.insert_decide.specs.declared.Weighed.{Weighed}
use Rattle.insert_decide.specs.declared.Weighed.TheVariants.{Slot, Pieces}
use Rattle.insert_decide.specs.Weighed.{cut_for, rest_of, unless_at, weighed_of, Weighable}

module _ (e b : ℕ) (x : Entry) (run used : List ℕ) (k : Key) where
  pub pieces_asks : Weighable e b x run used k → Judgeable e run used
  pieces_asks a = omega (arith, a)

  pub find_asks : Weighable e b x run used k → {w : Places} → w ≡ reach_of e x k → w.to ≤ length run
  find_asks a reach = omega (arith, a, reach_inside e x k reach)

-- the answer, from what each step says of segment i
module _ (i e b : ℕ) (x : Entry) (run used : List ℕ) (k : Key) where
  pub seat_refused : {a : Result Weighed Refusal} {r : Refusal} → a ≡ Err r → Err r ≡ seat_of i k.0 used → a ≡ weighed_of i e b x run used k
  unfolding seat_of weighed_of
  seat_refused {a} {r} passed =
      go (rising_keys used) (lowest_of run (reach_of e x k).from ((reach_of e x k).to - (reach_of e x k).from) k.0) (lowest_of used 0 (length used) k.0)
    where
      go : (t : Bool) (f g : Option ℕ) → ◌≡◌ {A = Result ℕ Refusal} (Err r) (pick t (seat_by g (place_of k.0 used)) (Err (StoreWrong i)))
          → a ≡ pick t (unless_at f (unless_at g (rest_of i e b x.held (place_of k.0 used) run used k.0))) (Err (StoreWrong i))
      go true (Some p) (Some j) q = cc
      go true None (Some j) q = cc
      go true f None q = absurd (let z : ◌≡◌ {A = ℕ} 0 1 = cc in omega arith)
      go false f g q = cc

  module _ {p : ℕ} (seat : Ok p ≡ seat_of i k.0 used) {w : Places} (reach : w ≡ reach_of e x k) {f : Option ℕ} (is : f ≡ lowest_of run w.from (w.to - w.from) k.0)
      {found : Bool} (test : found ≡ is_some f) where
    free : (rising_keys used ≡ true) × ((lowest_of used 0 (length used) k.0 ≡ None) × (p ≡ place_of k.0 used))
    free = free_none i k.0 used seat refl

    pub run_there : found ≡ true → Err Present ≡ weighed_of i e b x run used k
    unfolding weighed_of
    run_there h = go f refl (sym test ∙ h)
      where
        go : (g : Option ℕ) → f ≡ g → is_some g ≡ true → Err Present ≡ weighed_of i e b x run used k
        go (Some q) at there = cc free.0
        go None at there = clash (sym there)

    module _ (no : found ≡ false) where
      rest : {a : Result Weighed Refusal} → a ≡ rest_of i e b x.held p run used k.0 → a ≡ weighed_of i e b x run used k
      unfolding weighed_of
      rest {a} r = go f refl (sym test ∙ no)
        where
          go : (g : Option ℕ) → f ≡ g → is_some g ≡ false → a ≡ weighed_of i e b x run used k
          go (Some q) at h = clash h
          go None at h = cc (free.0, free.1.0, free.1.1)

      pub weigh_slot : x.held + 1 < b → Ok (Slot p) ≡ weighed_of i e b x run used k
      unfolding rest_of
      weigh_slot h = rest (simp (lt-ltb _ _ h))

      module _ (full : b ≤ x.held + 1) {c : Option ℕ} (cuts : c ≡ cutting_of e (merge run (insert_sorted k.0 used))) where
        cut_is : {a : Result Weighed Refusal} → a ≡ cut_for i c → a ≡ weighed_of i e b x run used k
        unfolding rest_of
        cut_is q = rest (simp (le-ltb _ _ full) (q ∙ ap (cut_for i) cuts))

        pub weigh_cut : {t : ℕ} → Ok t ≡ ok_or c (StoreWrong i) → Ok (Pieces t) ≡ weighed_of i e b x run used k
        weigh_cut {t} h = cut_is (go c h)
          where
            go : (d : Option ℕ) → ◌≡◌ {A = Result ℕ Refusal} (Ok t) (ok_or d (StoreWrong i)) → Ok (Pieces t) ≡ cut_for i d
            go (Some u) q = cc
            go None q = absurd (let z : ◌≡◌ {A = ℕ} 0 1 = cc in omega arith)

        pub weigh_unruly : {a : Result Weighed Refusal} {r : Refusal} → a ≡ Err r → Err r ≡ ok_or c (StoreWrong i) → a ≡ weighed_of i e b x run used k
        weigh_unruly {a} {r} passed h = cut_is (go c h)
          where
            go : (d : Option ℕ) → ◌≡◌ {A = Result ℕ Refusal} (Err r) (ok_or d (StoreWrong i)) → a ≡ cut_for i d
            go (Some u) q = absurd (let z : ◌≡◌ {A = ℕ} 0 1 = cc in omega arith)
            go None q = cc

pub ruleset weigh_cases = (pieces_asks, find_asks, run_there, weigh_slot, weigh_cut)
