-- The tests of a segment are its rules.
-- Assumes nothing.
use Rattle.std.specs.Prelude.{None}
use mathlib.Core.Path.{◌≡◌, refl, ap, ◌∙◌}
use mathlib.Core.Bool.{true, not}
use mathlib.Core.List.{List}
use Prim.Native.Nat.{ℕ, ◌+◌, ◌-◌, ◌*◌, ◌<◌}
use native.Mathlib.Omega.{arith}
use lib.Dec.{ltb}
use lib.ListN.{length, get_or, drop, length-take, length-drop}
use lib.Seq.{get_or-take, get_or-drop}
use borrow.Author.Tests.{lt-ltb, ltb-true, eqb-true, eq-eqb, not-true}
use Rattle.lists.proofs.Tests.{either, both_true, true_both, imp_true, true_imp}
use Rattle.terms.specs.Limits.{key_of}
use Rattle.table.specs.Store.{Store, in_use}
use Rattle.table.specs.Limits.{Limits}
use Rattle.table.specs.Entries.{entry_of, entry_in, run_in, used_in}
use Rattle.table.specs.Damaged.{Sound}
use Rattle.table.proofs.Damages.{damaged_false, false_damaged}
use Rattle.line.specs.Meaning.{Near}
use Rattle.judge.specs.Rules.{Rules}
use Rattle.judge.specs.Check.{ceiling_of, entry_rules, rules_of}
use Rattle.judge_laws.proofs.Kept.{Under, Kept, kept_true, true_kept}

pub first_is : (σ : Store) (i : ℕ) → (entry_in σ i).first.0 ≡ get_or σ.table (5 * i) 0
unfolding entry_of
first_is σ i = refl

-- below what the next segment begins with
under_next : (s : ℕ) (t : List ℕ) (i k : ℕ) → Under (ceiling_of s t i) k → i + 1 < s → k < get_or t (5 * (i + 1)) 0
under_next s t i k u h = simp (lt-ltb _ _ h) at u

next_under : (s : ℕ) (t : List ℕ) (i k : ℕ) → (i + 1 < s → k < get_or t (5 * (i + 1)) 0) → Under (ceiling_of s t i) k
next_under s t i k f = either (ltb (i + 1) s) (λ u. simp u (f (ltb-true _ _ u))) (λ u. simp u tt)

-- a run as a list, and as positions of the key slice
module _ (σ : Store) (i : ℕ) (limits : Limits σ) (sound : Sound σ.b σ.n (entry_in σ i)) where
  pub run_length : length (run_in σ i) ≡ (entry_in σ i).end.0 - (entry_in σ i).base.0
  run_length = rw (length-take, length-drop) (omega (arith, limits, sound))

pub run_at : (σ : Store) (i q : ℕ) → q < (entry_in σ i).end.0 - (entry_in σ i).base.0 → get_or (run_in σ i) q 0 ≡ get_or σ.keys ((entry_in σ i).base.0 + q) 0
run_at σ i q h = get_or-take ((entry_in σ i).end.0 - (entry_in σ i).base.0) (drop (entry_in σ i).base.0 σ.keys) q 0 h ∙ get_or-drop (entry_in σ i).base.0 σ.keys q 0

module _ (σ : Store) (i : ℕ) (limits : Limits σ) where
  pub rules_true : rules_of σ i ≡ true → Rules σ i
  unfolding rules_of entry_rules
  rules_true h =
      let v : _ = both_true _ _ h in
      let t : _ = both_true _ _ v.0 in
      let u : _ = both_true _ _ t.1 in
      let sound : Sound σ.b σ.n (entry_in σ i) = damaged_false _ _ _ (not-true _ t.0) in
      let w : Kept (in_use σ) (entry_in σ i) i (ceiling_of σ.s σ.table i) None (entry_in σ i).base.0 (run_in σ i) (used_in σ i) = kept_true _ _ _ _ _ _ _ _ v.1 in
      record {
        sound = sound;
        nought = λ z. eqb-true _ _ (imp_true _ _ u.0 (eq-eqb _ _ z));
        first = eqb-true _ _ u.1;
        rising = w.rising;
        not_before = w.not_before;
        run_apart = λ l k j. rw (first_is σ (i + 1)) (under_next σ.s σ.table i k (w.run_under k j) l);
        used_apart = λ l k j. rw (first_is σ (i + 1)) (under_next σ.s σ.table i k (w.used_under k j) l);
        windows = λ p a b.
            let q : (entry_in σ i).base.0 + (p - (entry_in σ i).base.0) ≡ p = omega arith in
            let l : p - (entry_in σ i).base.0 < (entry_in σ i).end.0 - (entry_in σ i).base.0 = omega arith in
            let n : Near (in_use σ) (entry_in σ i) (key_of (get_or (run_in σ i) (p - (entry_in σ i).base.0) 0)) ((entry_in σ i).base.0 + (p - (entry_in σ i).base.0)) =
            w.windows (p - (entry_in σ i).base.0) (omega (arith, run_length σ i limits sound)) in
            rw (run_at σ i (p - (entry_in σ i).base.0) l, q) at n;
      }

  pub true_rules : Rules σ i → rules_of σ i ≡ true
  unfolding rules_of entry_rules
  true_rules r =
      true_both _ _
      (true_both _ _ (ap not (false_damaged _ _ _ r.sound))
      (true_both _ _ (true_imp _ _ (λ t. eq-eqb _ _ (r.nought (eqb-true _ _ t)))) (eq-eqb _ _ r.first)))
      (true_kept (in_use σ) (entry_in σ i) i (ceiling_of σ.s σ.table i) None (entry_in σ i).base.0 (run_in σ i) (used_in σ i)
      (record {
        rising = r.rising;
        run_under = λ k j. next_under σ.s σ.table i k (λ l. rw (first_is σ (i + 1)) at (r.run_apart l k j));
        used_under = λ k j. next_under σ.s σ.table i k (λ l. rw (first_is σ (i + 1)) at (r.used_apart l k j));
        not_before = r.not_before;
        windows = λ q h.
            let l : q < (entry_in σ i).end.0 - (entry_in σ i).base.0 = omega (arith, run_length σ i limits r.sound) in
            rw (run_at σ i q l) (r.windows ((entry_in σ i).base.0 + q) (omega arith) (omega arith));
      }))
