-- Build's answer is the one that 01's table gives, and the only one.
-- Assumes nothing.
use Rattle.std.specs.Prelude.{Option, Some, None, Result, Ok, Err}
use mathlib.Core.Path.{◌≡◌, refl, sym, subst, ◌∙◌}
use mathlib.Core.List.{List}
use Prim.Native.Nat.{ℕ, ◌-◌, ◌≤◌, ◌<◌}
use native.Mathlib.Omega.{arith}
use lib.Dec.{leb, ltb}
use lib.ListN.{length, get_or, take}
use borrow.Author.Tests.{leb-true, leb-false, le-leb, lt-leb, ltb-true, ltb-false, lt-ltb, le-ltb}
use Rattle.lists.proofs.Tests.{either, is_false, clash}
use Rattle.terms.specs.Keys.{is_key, IsKey}
use Rattle.terms.specs.declared.Refusal.{Refusal}
use Rattle.terms.specs.declared.Refusal.TheVariants.{Limits, LargeKey, NotRising, SegmentRoom}
use Rattle.terms.proofs.Keys.{key_false}
use Rattle.table.specs.Limits.{segment_room}
use Rattle.cone.specs.Rule.{cut}
use Rattle.build_keys.specs.Faults.{Good, fault_of, wrong_of}
use Rattle.build.specs.Build.{takes_of, Takes, built_of}
use Rattle.build_keys.proofs.Faults.{all_good, lower_good, fault_none, fault_at, fault_not_good, fault_lowest}
use Rattle.build_keys.proofs.Faults.{wrong_rising, wrong_large}
use Rattle.build.proofs.Laws.{takes_true, true_takes, judge_limits, judge_wrong, judge_cramped, judge_clear, build_faulty, build_made}
use Rattle.build_laws.specs.Builds.{Lowest, Large, Falls, Sound, Accepted, Builds, made, refused_1, refused_2, refused_3, refused_7}

module _ (e b n : ℕ) (keys table buffers : List ℕ) where
  abbrev built : Result ℕ Refusal
  built = built_of e b n keys table buffers

  abbrev segments : ℕ
  segments = length (cut e (take n keys))

  -- ---- the answer that each condition has

  limits_answer : (Takes e b n keys → ⊥) → Err Limits ≡ built
  limits_answer out =
      build_faulty e b n keys table buffers refl
      (sym (judge_limits e b n keys table buffers refl (is_false (takes_of e b n keys) (λ t. out (takes_true e b n keys t)))))

  module _ (takes : Takes e b n keys) where
    wrong_answer : (p : ℕ) (r : Refusal) → fault_of keys n ≡ Some p → r ≡ wrong_of keys p → Err r ≡ built
    wrong_answer p r at is =
        build_faulty e b n keys table buffers refl (sym (judge_wrong e b n keys table buffers refl (true_takes e b n keys takes) refl at is))

    cramped_answer : fault_of keys n ≡ None → segment_room b table buffers < segments → Err SegmentRoom ≡ built
    cramped_answer none short =
        build_faulty e b n keys table buffers refl
        (sym (judge_cramped e b n keys table buffers refl (true_takes e b n keys takes) refl none refl (lt-leb _ _ short)))

    made_answer : (s : ℕ) → fault_of keys n ≡ None → segments ≤ segment_room b table buffers → s ≡ segments → Ok s ≡ built
    made_answer s none room is =
        build_made e b n keys table buffers refl
        (sym (judge_clear e b n keys table buffers refl (true_takes e b n keys takes) refl none refl (le-leb _ _ room))) is

  -- ---- the answer has its meaning

  abbrev Means : Result ℕ Refusal → Type 0
  Means = Builds e b n keys table buffers

  fault_means : Takes e b n keys → (p : ℕ) → fault_of keys n ≡ Some p → Means built
  fault_means takes p at =
      let lowest : Lowest e b n keys p = record { takes = takes; given = (fault_lowest keys n at).below; lower = lower_good keys n at } in
      either (is_key (get_or keys p 0))
      (λ t.
      let small : IsKey (get_or keys p 0) = ltb-true _ _ t in
      subst Means (wrong_answer takes p (NotRising (record { 0 = p })) at (wrong_rising keys p refl t))
      (either (ltb 0 p)
      (λ u.
      refused_3
      (record {
        lowest = lowest;
        small = small;
        later = ltb-true _ _ u;
        not_above =
            either (leb (get_or keys p 0) (get_or keys (p - 1) 0)) (λ v. leb-true _ _ v)
            (λ v. absurd (fault_not_good keys n at (record { small = small; above = λ h. leb-false _ _ v })));
      }))
      (λ u. absurd (fault_not_good keys n at (record { small = small; above = λ h. absurd (omega (arith, ltb-false 0 p u)) })))))
      (λ t.
      subst Means (wrong_answer takes p (LargeKey (record { 0 = p })) at (wrong_large keys p refl t))
      (refused_2 (record { lowest = lowest; large = omega (arith, key_false (get_or keys p 0) t) })))

  none_means : Takes e b n keys → fault_of keys n ≡ None → Means built
  none_means takes none =
      let sound : Sound e b n keys = record { takes = takes; good = all_good keys n none } in
      either (leb segments (segment_room b table buffers))
      (λ t. subst Means (made_answer takes segments none (leb-true _ _ t) refl) (made (record { sound = sound; counts = refl; room = leb-true _ _ t })))
      (λ t. subst Means (cramped_answer takes none (leb-false _ _ t)) (refused_7 (record { sound = sound; room = leb-false _ _ t })))

  by_fault : Takes e b n keys → (f : Option ℕ) → fault_of keys n ≡ f → Means built
  by_fault takes (Some p) is = fault_means takes p is
  by_fault takes None is = none_means takes is

  -- On every input the answer is the one whose row of 01's table holds.
  pub answers : Builds e b n keys table buffers (built_of e b n keys table buffers)
  answers =
      either (takes_of e b n keys) (λ t. by_fault (takes_true e b n keys t) (fault_of keys n) refl)
      (λ t.
      let out : Takes e b n keys → ⊥ = λ h. clash (sym (true_takes e b n keys h) ∙ t) in
      subst Means (limits_answer out) (refused_1 out))

  -- ---- and only that answer has it

  lowest_at : (p : ℕ) → Lowest e b n keys p → (Good keys p → ⊥) → fault_of keys n ≡ Some p
  lowest_at p w not_good = fault_at keys n p w.given not_good w.lower

  large_one : (p : ℕ) → Large e b n keys p → Err (LargeKey (record { 0 = p })) ≡ built
  large_one p w =
      wrong_answer w.lowest.takes p (LargeKey (record { 0 = p })) (lowest_at p w.lowest (λ g. omega (arith, g.small, w.large)))
      (wrong_large keys p refl (le-ltb _ _ w.large))

  falls_one : (p : ℕ) → Falls e b n keys p → Err (NotRising (record { 0 = p })) ≡ built
  falls_one p w =
      wrong_answer w.lowest.takes p (NotRising (record { 0 = p })) (lowest_at p w.lowest (λ g. omega (arith, g.above w.later, w.not_above)))
      (wrong_rising keys p refl (lt-ltb _ _ w.small))

  -- An answer whose row holds is the one that build gives: so each number is given exactly when its row says.
  pub only : (a : Result ℕ Refusal) → Builds e b n keys table buffers a → a ≡ built_of e b n keys table buffers
  only a (made {s} w) = made_answer w.sound.takes s (fault_none keys n w.sound.good) (rw (← w.counts) w.room) w.counts
  only a (refused_1 out) = limits_answer out
  only a (refused_2 {p} w) = large_one p w
  only a (refused_3 {p} w) = falls_one p w
  only a (refused_7 w) = cramped_answer w.sound.takes (fault_none keys n w.sound.good) w.room

  -- what an accepted build says
  pub made_accepted : (s : ℕ) → Builds e b n keys table buffers (Ok s) → Accepted e b n keys table buffers s
  made_accepted s (made w) = w
