-- Demand 3a: the check says yes exactly when every store rule of 01 holds, 1 exactly when the limits fail, and 9 at the lowest segment that breaks a rule.
-- Assumes nothing.
use Rattle.std.specs.Prelude.{Option, Some, None, Result, Ok, Err}
use Rattle.terms.specs.declared.Refusal.{Refusal}
use Rattle.std.specs.Prelude.{⊤}
use mathlib.Core.Path.{◌≡◌, sym, ap, ◌∙◌}
use mathlib.Core.Bool.{false}
use Prim.Native.Nat.{ℕ, ◌+◌}
use native.Mathlib.Omega.{arith}
use Rattle.lists.proofs.Tests.{either, clash, is_true}
use Rattle.terms.specs.declared.Refusal.TheVariants.{Limits as OutOfLimits, StoreWrong}
use Rattle.table.specs.Store.{Store}
use Rattle.table.specs.Limits.{Limits, limited_of}
use Rattle.table.proofs.Limits.{limited_true, true_limited}
use Rattle.scan.specs.Scan.{fails_of}
use Rattle.scan.specs.Meaning.{Scanned}
use Rattle.scan.proofs.Meaning.{fails_scanned, one_answer}
use Rattle.judge.specs.Rules.{Rules, Accepted}
use Rattle.judge.specs.Check.{rules_of, judged, check_of}
use Rattle.judge_laws.specs.Answers.{Wrong, Answers, good, refused_1, refused_9}
use Rattle.judge_laws.proofs.Bridge.{rules_true, true_rules}

module _ (σ : Store) where
  abbrev Fails : ℕ → Type 0
  Fails q = rules_of σ q ≡ false

  scanned_all : Scanned Fails 0 σ.s (fails_of (rules_of σ) 0 σ.s)
  scanned_all = let z : 0 + σ.s ≡ σ.s = omega arith in rw z at (fails_scanned (rules_of σ) 0 σ.s)

  module _ (limits : Limits σ) where
    passes : (i : ℕ) → (Fails i → ⊥) → Rules σ i
    passes i h = rules_true σ i limits (is_true (rules_of σ i) h)

    fails : (i : ℕ) → (Rules σ i → ⊥) → Fails i
    fails i h = either (rules_of σ i) (λ t. absurd (h (rules_true σ i limits t))) (λ t. t)

    judged_answers : (f : Option ℕ) → Scanned Fails 0 σ.s f → Answers σ (judged f)
    judged_answers (Some i) w =
        refused_9 (record { limits = limits; inside = w.below; breaks = λ r. clash (sym (true_rules σ i limits r) ∙ w.holds); before = λ j h. passes j (w.first j (omega arith) h) })
    judged_answers None w = good (record { limits = limits; rules = λ i h. passes i (w i (omega arith) h) })

    judged_is : (f : Option ℕ) → Scanned Fails 0 σ.s f → judged f ≡ check_of σ
    unfolding check_of
    judged_is f w = simp (true_limited σ limits) (ap judged (one_answer Fails 0 σ.s f (fails_of (rules_of σ) 0 σ.s) w scanned_all))

-- The check's answer means what it should.
pub answers : (σ : Store) → Answers σ (check_of σ)
unfolding check_of
answers σ =
    either (limited_of σ)
    (λ t. simp t (judged_answers σ (limited_true σ t) (fails_of (rules_of σ) 0 σ.s) (scanned_all σ)))
    (λ t. simp t (refused_1 (λ l. clash (sym (true_limited σ l) ∙ t))))

outside : (σ : Store) → (Limits σ → ⊥) → Err OutOfLimits ≡ check_of σ
unfolding check_of
outside σ w = either (limited_of σ) (λ t. absurd (w (limited_true σ t))) (λ t. simp t)

-- An answer that means what it should is the check's.
pub only : (σ : Store) (a : Result ⊤ Refusal) → Answers σ a → a ≡ check_of σ
only σ a (good w) = judged_is σ w.limits None (λ q h g e. clash (sym (true_rules σ q w.limits (w.rules q g)) ∙ e))
only σ a (refused_1 w) = outside σ w
only σ a (refused_9 {i} w) =
    judged_is σ w.limits (Some i)
    (record {
      from = omega arith;
      below = w.inside;
      holds = fails σ w.limits i w.breaks;
      first = λ q h g e. clash (sym (true_rules σ q w.limits (w.before q g)) ∙ e);
    })

-- ---- and so, answer by answer

good_says : (σ : Store) {a : Result ⊤ Refusal} → Answers σ a → a ≡ Ok tt → Accepted σ
good_says σ (good w) e = w
good_says σ (refused_1 w) e = absurd (let z : ◌≡◌ {A = ℕ} 0 1 = cc in omega arith)
good_says σ (refused_9 w) e = absurd (let z : ◌≡◌ {A = ℕ} 0 1 = cc in omega arith)

-- "the check accepts" exactly a store within the limits in which each segment keeps every rule
pub good_accepted : (σ : Store) → check_of σ ≡ Ok tt → Accepted σ
good_accepted σ e = good_says σ (answers σ) e

pub accepted_good : (σ : Store) → Accepted σ → check_of σ ≡ Ok tt
accepted_good σ w = sym (only σ (Ok tt) (good w))

limits_say : (σ : Store) {a : Result ⊤ Refusal} → Answers σ a → a ≡ Err OutOfLimits → Limits σ → ⊥
limits_say σ (good w) e = absurd (let z : ◌≡◌ {A = ℕ} 0 1 = cc in omega arith)
limits_say σ (refused_1 w) e = w
limits_say σ (refused_9 w) e = absurd (let z : ◌≡◌ {A = ℕ} 0 1 = cc in omega arith)

-- 1 is given exactly when the limits fail
pub one_limits : (σ : Store) → check_of σ ≡ Err OutOfLimits → Limits σ → ⊥
one_limits σ e = limits_say σ (answers σ) e

pub limits_one : (σ : Store) → (Limits σ → ⊥) → check_of σ ≡ Err OutOfLimits
limits_one σ w = sym (only σ (Err OutOfLimits) (refused_1 w))

wrong_says : (σ : Store) {a : Result ⊤ Refusal} (place : ℕ) → Answers σ a → a ≡ Err (StoreWrong place) → Wrong σ place
wrong_says σ place (good w) e = absurd (let z : ◌≡◌ {A = ℕ} 0 1 = cc in omega arith)
wrong_says σ place (refused_1 w) e = absurd (let z : ◌≡◌ {A = ℕ} 0 1 = cc in omega arith)
wrong_says σ place (refused_9 {i} w) e = let q : i ≡ place = cc in rw q at w

-- 9 is given at i exactly when the limits hold and i is the lowest segment that breaks a rule
pub nine_wrong : (σ : Store) (i : ℕ) → check_of σ ≡ Err (StoreWrong i) → Wrong σ i
nine_wrong σ i e = wrong_says σ i (answers σ) e

pub wrong_nine : (σ : Store) (i : ℕ) → Wrong σ i → check_of σ ≡ Err (StoreWrong i)
wrong_nine σ i w = sym (only σ (Err (StoreWrong i)) (refused_9 w))
