-- The first keys of a list: four at a time, and good where they rise to a key.
-- Assumes nothing.
use mathlib.Core.Path.{◌≡◌, refl, sym, ◌∙◌}
use mathlib.Core.Bool.{Bool, true, false}
use mathlib.Core.List.{List}
use Prim.Native.Nat.{ℕ, zero, suc, ◌+◌, ◌-◌, ◌≤◌, ◌<◌}
use native.Mathlib.Numerals.{add-one}
use native.Mathlib.Omega.{arith}
use lib.Dec.{ltb, eqb}
use lib.ListN.{length, get_or}
use borrow.Author.Tests.{ltb-true, ltb-false, lt-ltb, eqb-true, eqb-false}
use Rattle.lists.specs.Tests.{all}
use Rattle.lists.proofs.Tests.{all_each, either, is_false}
use Rattle.terms.specs.Keys.{is_key}
use Rattle.terms.proofs.Keys.{key_true}
use Rattle.scan.specs.Scan.{fails_of}
use Rattle.build_keys.specs.Faults.{good_of, fault_of, Held}
use Rattle.build_keys.specs.Fronts.{FourHeld, fours, four_of, Four, Front, GoodFront}
use Rattle.build_keys.proofs.Faults.{true_good, fault_start, fault_on}

-- ---- four keys

four_true : (keys : List ℕ) (p : ℕ) → four_of keys p ≡ true → Four keys p
unfolding four_of
four_true keys p h =
    let t : _ = all_each (fours keys p) h in
    record { first = ltb-true _ _ t.0; second = ltb-true _ _ t.1.0; third = ltb-true _ _ t.1.1.0; fourth = ltb-true _ _ t.1.1.1.0 }

-- the last test answers, where those before it hold
pub four_last : (keys : List ℕ) (p : ℕ) → get_or keys (p - 1) 0 < get_or keys p 0 → get_or keys p 0 < get_or keys (p + 1) 0 →
    get_or keys (p + 1) 0 < get_or keys (p + 2) 0 → ltb (get_or keys (p + 2) 0) (get_or keys (p + 3) 0) ≡ four_of keys p
unfolding four_of all
four_last keys p a b c =
    simp (lt-ltb _ _ a, lt-ltb _ _ b, lt-ltb _ _ c)
    (either (ltb (get_or keys (p + 2) 0) (get_or keys (p + 3) 0)) (λ t. rw t refl) (λ t. rw t refl))

pub four_no : (keys : List ℕ) (p : ℕ) → (Four keys p → ⊥) → false ≡ four_of keys p
four_no keys p h = sym (is_false (four_of keys p) (λ e. h (four_true keys p e)))

-- ---- the front that rises

pub front_none : (keys : List ℕ) (n : ℕ) → n < 1 → Front keys n 0
front_none keys n h = record { inside = omega arith; rises = λ q a b. absurd (omega arith) }

pub front_one : (keys : List ℕ) (n : ℕ) → 1 ≤ n → Front keys n 1
front_one keys n h = record { inside = omega arith; rises = λ q a b. absurd (omega arith) }

at_place : (keys : List ℕ) (q p : ℕ) → q ≡ p → get_or keys (p - 1) 0 < get_or keys p 0 → get_or keys (q - 1) 0 < get_or keys q 0
at_place keys q p e h = rw e h

module _ (keys : List ℕ) (n p : ℕ) (so_far : Front keys n p) where
  pub front_asks : 4 ≤ n - p → 0 < p → n ≤ length keys → FourHeld keys p
  front_asks h some held = record { before = some; held = omega arith }

  pub front_more : 4 ≤ n - p → 0 < p → {r : Bool} → r ≡ four_of keys p → r ≡ true → Front keys n (p + 4)
  front_more h some {r} is told = record { inside = omega (arith, so_far.inside); rises = more }
    where
      four : Four keys p
      four = four_true keys p (sym is ∙ told)

      more : (q : ℕ) → 0 < q → q < p + 4 → get_or keys (q - 1) 0 < get_or keys q 0
      more q a b =
          either (ltb q p) (λ t. so_far.rises q a (ltb-true q p t))
          (λ t. either (eqb q p) (λ u. at_place keys q p (eqb-true q p u) four.first)
          (λ u. either (eqb q (p + 1)) (λ v. let m : p + 1 - 1 ≡ p = omega arith in at_place keys q (p + 1) (eqb-true q (p + 1) v) (rw m four.second))
          (λ v. either (eqb q (p + 2)) (λ w. let m : p + 2 - 1 ≡ p + 1 = omega arith in at_place keys q (p + 2) (eqb-true q (p + 2) w) (rw m four.third))
          (λ w.
          let z : q ≡ p + 3 = omega (arith, ltb-false q p t, eqb-false q p u, eqb-false q (p + 1) v, eqb-false q (p + 2) w) in
          let m : p + 3 - 1 ≡ p + 2 = omega arith in at_place keys q (p + 3) z (rw m four.fourth)))))

pub record Fronting (keys : List ℕ) (n p : ℕ) : Type 0 where
  pub some : 0 < p
  pub held : n ≤ length keys
  pub inside : p ≤ n
  pub front : Front keys n p

pub fronting_start : (keys : List ℕ) (n : ℕ) → Held keys n → 1 ≤ n → Fronting keys n 1
fronting_start keys n asked h = record { some = omega arith; held = asked.held; inside = h; front = front_one keys n h }

module _ (keys : List ℕ) (n p : ℕ) (state : Fronting keys n p) where
  pub fronting_asks : 4 ≤ n - p → FourHeld keys p
  fronting_asks h = front_asks keys n p state.front h state.some state.held

  pub fronting_on : 4 ≤ n - p → {r : Bool} → r ≡ four_of keys p → r ≡ true → Fronting keys n (p + 4)
  fronting_on h is told =
      record { some = omega (arith, state.some); held = state.held; inside = omega (arith, state.inside); front = front_more keys n p state.front h state.some is told }

  pub fronting_end : Front keys n p
  fronting_end = state.front

pub ruleset front_cases = (front_none, fronting_start, fronting_asks, fronting_on, fronting_end)

-- ---- the front that is good

-- below a key of the front every key is below the limit
below_last : (keys : List ℕ) (n p : ℕ) → Front keys n p → (d q : ℕ) → q + d < p → get_or keys q 0 ≤ get_or keys (q + d) 0
below_last keys n p front zero q h = let e : q + 0 ≡ q = omega arith in rw e (omega arith)
below_last keys n p front (suc d) q h =
    let e : q + suc d ≡ suc (q + d) = omega arith in
    let m : suc (q + d) - 1 ≡ q + d = omega arith in
    let s : get_or keys (q + d) 0 < get_or keys (suc (q + d)) 0 = rw m at (front.rises (suc (q + d)) (omega arith) (omega arith)) in
    rw e (omega (arith, s, below_last keys n p front d q (omega arith)))

pub good_none : (keys : List ℕ) (n : ℕ) → GoodFront keys n 0
good_none keys n = record { inside = omega arith; good = λ q h. absurd (omega arith) }

pub good_some : (keys : List ℕ) (n p : ℕ) → Front keys n p → 1 ≤ p → {w : Bool} → w ≡ is_key (get_or keys (p - 1) 0) → w ≡ true → GoodFront keys n p
good_some keys n p front some test told =
    record {
      inside = front.inside;
      good = λ q h.
          let e : q + (p - 1 - q) ≡ p - 1 = omega arith in
          let b : get_or keys q 0 ≤ get_or keys (p - 1) 0 = rw e at (below_last keys n p front (p - 1 - q) q (omega arith)) in
          record { small = omega (arith, b, key_true (get_or keys (p - 1) 0) (sym test ∙ told)); above = λ a. front.rises q a h };
    }

pub front_held : (keys : List ℕ) (n p : ℕ) → Front keys n p → Held keys n → 1 ≤ p → p - 1 < length keys
front_held keys n p front asked some = omega (arith, front.inside, asked.held)

pub ruleset good_front_cases = (good_none, good_some, front_held)

-- ---- the scan may start past it

pub scan_past : (keys : List ℕ) (n p : ℕ) → GoodFront keys n p → fault_of keys n ≡ fails_of (good_of keys) p (n - p)
scan_past keys n zero front = fault_start keys n
scan_past keys n (suc p) front =
    let below : GoodFront keys n p = record { inside = omega (arith, front.inside); good = λ q h. front.good q (omega arith) } in
    rw (← add-one p)
    (fault_on keys n p (scan_past keys n p below) (omega (arith, front.inside)) refl (true_good keys p (front.good p (omega arith))))
