-- The keys as they are judged: where the scan finds no fault they rise.
-- Assumes nothing.
use Rattle.std.specs.Prelude.{Some, None}
use mathlib.Core.Path.{◌≡◌, sym, ◌∙◌}
use mathlib.Core.Bool.{Bool, true, false}
use mathlib.Core.List.{List}
use Prim.Native.Nat.{ℕ, suc, ◌+◌, ◌-◌, ◌≤◌, ◌<◌}
use native.Mathlib.Nat.{sub-zero}
use native.Mathlib.Omega.{arith}
use lib.Dec.{ltb, eqb}
use lib.ListN.{length, get_or, take}
use lib.Seq.{get_or-take, length-take-le}
use borrow.Author.Tests.{ltb-true, lt-ltb, le-ltb, eq-eqb}
use Rattle.lists.specs.Tests.{imp}
use Rattle.lists.proofs.Tests.{both_true, true_both, imp_true, true_imp, either, is_false, clash}
use Rattle.lists.proofs.Rising.{neighbours_up}
use Rattle.terms.specs.Keys.{is_key, RisingKeys}
use Rattle.terms.specs.declared.Refusal.TheVariants.{LargeKey, NotRising}
use Rattle.scan.specs.Scan.{fails_of}
use Rattle.scan.specs.Meaning.{Lowest, Scanned}
use Rattle.scan.proofs.Laws.{fail_here, fail_on, fail_end}
use Rattle.scan.proofs.Meaning.{fails_scanned, one_answer}
use Rattle.build_keys.specs.Faults.{good_of, Good, fault_of, wrong_of}

-- ---- one key

module _ (keys : List ℕ) (p : ℕ) where
  abbrev is_small : Bool
  is_small = is_key (get_or keys p 0)

  abbrev is_above : Bool
  is_above = ltb (get_or keys (p - 1) 0) (get_or keys p 0)

  pub good_true : good_of keys p ≡ true → Good keys p
  unfolding good_of
  good_true h =
      let t : (is_small ≡ true) × (imp (ltb 0 p) is_above ≡ true) = both_true is_small (imp (ltb 0 p) is_above) h in
      record { small = ltb-true _ _ t.0; above = λ s. ltb-true _ _ (imp_true (ltb 0 p) is_above t.1 (lt-ltb _ _ s)) }

  pub true_good : Good keys p → good_of keys p ≡ true
  unfolding good_of
  true_good g =
      true_both is_small (imp (ltb 0 p) is_above) (lt-ltb _ _ g.small) (true_imp (ltb 0 p) is_above (λ s. lt-ltb _ _ (g.above (ltb-true _ _ s))))

  -- as the code answers
  module _ {r : Bool} (tested : r ≡ is_key (get_or keys p 0)) where
    pub good_later : r ≡ true → (p ≡ 0 → ⊥) → ltb (get_or keys (p - 1) 0) (get_or keys p 0) ≡ good_of keys p
    unfolding good_of
    good_later q h = simp (sym tested ∙ q, lt-ltb 0 p (omega arith))

    pub good_first : r ≡ true → p ≡ 0 → eqb p 0 ≡ good_of keys p
    unfolding good_of
    good_first q h = simp (sym tested ∙ q, le-ltb 0 p (omega arith), eq-eqb p 0 h)

    pub good_not : r ≡ false → r ≡ good_of keys p
    unfolding good_of
    good_not q = simp (sym tested ∙ q) q

pub ruleset good_cases = (good_later, good_first, good_not)

-- ---- the scan

module _ (keys : List ℕ) (n : ℕ) where
  pub fault_start : fault_of keys n ≡ fails_of (good_of keys) 0 (n - 0)
  unfolding fault_of
  fault_start = rw sub-zero

  module _ (p : ℕ) (so_far : fault_of keys n ≡ fails_of (good_of keys) p (n - p)) where
    whole : fails_of (good_of keys) 0 (n - 0) ≡ fails_of (good_of keys) p (n - p)
    whole = sym fault_start ∙ so_far

    pub fault_here : {r : Bool} → p < n → r ≡ good_of keys p → r ≡ false → Some p ≡ fault_of keys n
    fault_here h is q = sym (fault_start ∙ fail_here (good_of keys) 0 n p whole h is q)

    pub fault_on : {r : Bool} → p < n → r ≡ good_of keys p → r ≡ true → fault_of keys n ≡ fails_of (good_of keys) (p + 1) (n - (p + 1))
    fault_on h is q = fault_start ∙ fail_on (good_of keys) 0 n p whole h is q

    pub fault_end : n ≤ p → None ≡ fault_of keys n
    fault_end h = sym (fault_start ∙ fail_end (good_of keys) 0 n p whole h)

  pub ruleset fault_cases = (fault_start, fault_here, fault_on, fault_end)

  -- what it finds: the lowest position that is not good, or none
  pub faults : Scanned (λ q. good_of keys q ≡ false) 0 n (fault_of keys n)
  unfolding fault_of
  faults = let z : 0 + n ≡ n = omega arith in rw z at (fails_scanned (good_of keys) 0 n)

  pub fault_lowest : {p : ℕ} → fault_of keys n ≡ Some p → Lowest (λ q. good_of keys q ≡ false) 0 n p
  fault_lowest q = rw q at faults

  pub all_good : fault_of keys n ≡ None → (q : ℕ) → q < n → Good keys q
  all_good e q h =
      let none : Scanned (λ q. good_of keys q ≡ false) 0 n None = rw e at faults in
      good_true keys q (either (good_of keys q) (λ t. t) (λ t. absurd (none q (omega arith) h t)))

  -- and back: from what a position is like to what the scan finds
  pub fault_none : ((q : ℕ) → q < n → Good keys q) → fault_of keys n ≡ None
  fault_none good =
      one_answer (λ q. good_of keys q ≡ false) 0 n (fault_of keys n) None faults (λ q a h e. clash (sym (true_good keys q (good q h)) ∙ e))

  pub fault_at : (p : ℕ) → p < n → (Good keys p → ⊥) → ((q : ℕ) → q < p → Good keys q) → fault_of keys n ≡ Some p
  fault_at p below not_good good =
      one_answer (λ q. good_of keys q ≡ false) 0 n (fault_of keys n) (Some p) faults
      (record {
        from = omega arith;
        below = below;
        holds = is_false (good_of keys p) (λ e. not_good (good_true keys p e));
        first = λ q a h e. clash (sym (true_good keys q (good q h)) ∙ e);
      })

  -- the positions below the lowest fault are good
  pub lower_good : {p : ℕ} → fault_of keys n ≡ Some p → (q : ℕ) → q < p → Good keys q
  lower_good at q h =
      good_true keys q (either (good_of keys q) (λ t. t) (λ t. absurd ((fault_lowest at).first q (omega arith) h t)))

  pub fault_not_good : {p : ℕ} → fault_of keys n ≡ Some p → Good keys p → ⊥
  fault_not_good {p} at good = clash (sym (true_good keys p good) ∙ (fault_lowest at).holds)

-- the first n keys rise
pub good_up : (keys : List ℕ) (n : ℕ) → n ≤ length keys → ((q : ℕ) → q < n → Good keys q) → RisingKeys (take n keys)
good_up keys n held good =
    let l : length (take n keys) ≡ n = length-take-le n keys held in
    neighbours_up 0 _ (take n keys) (λ h. omega arith)
    (λ i h. rw (get_or-take n keys i 0 (omega arith)) (good i (omega arith)).small)
    (λ i h.
    let m : suc i - 1 ≡ i = omega arith in
    rw (get_or-take n keys i 0 (omega arith), get_or-take n keys (suc i) 0 (omega arith)) (rw m at ((good (suc i) (omega arith)).above (omega arith))))

-- ---- what is wrong with a key

module _ (keys : List ℕ) (p : ℕ) {r : Bool} (tested : r ≡ is_key (get_or keys p 0)) where
  pub wrong_rising : r ≡ true → NotRising (record { 0 = p }) ≡ wrong_of keys p
  unfolding wrong_of
  wrong_rising q = simp (sym tested ∙ q)

  pub wrong_large : r ≡ false → LargeKey (record { 0 = p }) ≡ wrong_of keys p
  unfolding wrong_of
  wrong_large q = simp (sym tested ∙ q)

pub ruleset wrong_cases = (wrong_rising, wrong_large)
