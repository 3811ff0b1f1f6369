-- The cases of the tests of a key, over what the callees ensure and what the code's own tests say.
-- Assumes nothing.
use Rattle.std.specs.Prelude.{Option}
use mathlib.Core.Path.{◌≡◌, sym, ◌∙◌}
use mathlib.Core.Bool.{Bool, true, false}
use Prim.Native.Nat.{ℕ, ◌≤◌, ◌<◌}
use native.Mathlib.Omega.{arith}
use lib.Dec.{ltb, leb, eqb}
use borrow.Author.Tests.{lt-ltb, le-ltb, ltb-true, le-leb, lt-leb, eq-eqb}
use Rattle.lists.specs.Tests.{pick, imp}
use Rattle.lists.proofs.Tests.{both_true}
use Rattle.terms.specs.Limits.{key_of}
use Rattle.terms.specs.Keys.{is_key, IsKey}
use Rattle.terms.specs.declared.Entry.{Entry}
use Rattle.line.specs.declared.Span.{Span}
use Rattle.line.specs.Line.{Lined, window_of}
use Rattle.order.specs.Bound.{above_of, under_of}
use Rattle.judge_key.specs.Key.{between_of, run_key_of, used_key_of, Placed}

-- ---- not_before
pub before_none : (i f k : ℕ) → i ≡ 0 → eqb i 0 ≡ imp (ltb 0 i) (leb f k)
before_none i f k h = simp (le-ltb 0 i (omega arith), eq-eqb i 0 h)

pub before_some : (i f k : ℕ) → (i ≡ 0 → ⊥) → leb f k ≡ imp (ltb 0 i) (leb f k)
before_some i f k h = simp (lt-ltb 0 i (omega arith))

pub ruleset before_cases = (before_none, before_some)

-- ---- between
module _ (next before : Option ℕ) (k : ℕ) {a : Bool} (key : a ≡ is_key k) where
  pub between_large : a ≡ false → false ≡ between_of next before k
  unfolding between_of
  between_large h = simp (sym key ∙ h)

  module _ (small : a ≡ true) {b : Bool} (over : b ≡ above_of before k) where
    pub between_not_above : b ≡ false → false ≡ between_of next before k
    unfolding between_of
    between_not_above h = simp (sym key ∙ small, sym over ∙ h)

    pub between_last : {r : Bool} → b ≡ true → r ≡ under_of next k → r ≡ between_of next before k
    unfolding between_of
    between_last h is = simp (sym key ∙ small, sym over ∙ h) is

pub ruleset between_cases = (between_large, between_not_above, between_last)

-- ---- run_key, used_key, key_ok
module _ (next before : Option ℕ) (k : ℕ) {a : Bool} (is : a ≡ between_of next before k) where
  pub run_window_asks : (x : Entry) (at : ℕ) → Placed x at → a ≡ true → Lined x (key_of k)
  unfolding between_of
  run_window_asks x at d h = let small : IsKey k = ltb-true _ _ (both_true _ _ (sym is ∙ h)).0 in omega (arith, d, small)

  module _ (e : ℕ) (x : Entry) (p : ℕ) where
    pub run_not_between : a ≡ false → false ≡ run_key_of e x next before k p
    unfolding run_key_of
    run_not_between h = simp (sym is ∙ h)

    module _ (yes : a ≡ true) {w : Span} (window : w ≡ window_of e x (key_of k)) where
      pub run_before : p < w.from.0 → leb w.from.0 p ≡ run_key_of e x next before k p
      unfolding run_key_of
      run_before h = let g : p < (window_of e x (key_of k)).from.0 = rw window at h in lt-leb _ _ h ∙ simp (sym is ∙ yes, lt-leb _ _ g)

      pub run_last : w.from.0 ≤ p → ltb p w.to.0 ≡ run_key_of e x next before k p
      unfolding run_key_of
      run_last h = let g : (window_of e x (key_of k)).from.0 ≤ p = rw window at h in rw window (simp (sym is ∙ yes, le-leb _ _ g))

  module _ (x : Entry) (i : ℕ) where
    pub used_not_between : a ≡ false → a ≡ used_key_of x i next before k
    unfolding used_key_of
    used_not_between h = simp (sym is ∙ h) h

    pub used_last : {r : Bool} → a ≡ true → r ≡ imp (ltb 0 i) (leb x.first.0 k) → r ≡ used_key_of x i next before k
    unfolding used_key_of
    used_last h q = simp (sym is ∙ h) q

pub ruleset run_key_cases = (run_window_asks, run_not_between, run_before, run_last)

pub ruleset used_key_cases = (used_not_between, used_last)

pub key_of_run : (a b : Bool) (at past : ℕ) {r : Bool} → at < past → r ≡ a → r ≡ pick (ltb at past) a b
key_of_run a b at past h is = simp (lt-ltb _ _ h) is

pub key_of_slots : (a b : Bool) (at past : ℕ) {r : Bool} → past ≤ at → r ≡ b → r ≡ pick (ltb at past) a b
key_of_slots a b at past h is = simp (le-ltb _ _ h) is

pub ruleset key_cases = (key_of_run, key_of_slots)
