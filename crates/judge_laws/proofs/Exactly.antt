-- Demand 3d: a table within limits that keeps the other rules and whose lines, worked exactly, miss no read in a run by more than e is accepted,
-- however it was cut.
-- Assumes nothing.
use Rattle.std.specs.Prelude.{Ok}
use mathlib.Core.Path.{◌≡◌, ap, ◌∙◌}
use Prim.Native.Nat.{ℕ, zero, suc, ◌+◌, ◌-◌, ◌≤◌, ◌<◌}
use native.Mathlib.Nat.{add-zero}
use native.Mathlib.Omega.{arith}
use lib.ListN.{get_or}
use Rattle.terms.specs.Limits.{key_of}
use Rattle.terms.proofs.Keys.{rising_lt, rising_split}
use Rattle.table.specs.Store.{Store, in_use}
use Rattle.table.specs.Limits.{Limits}
use Rattle.table.specs.Entries.{entry_in, run_in, used_in}
use Rattle.line.proofs.Exact.{exact_near}
use Rattle.judge.specs.Rules.{Rules}
use Rattle.judge.specs.Check.{check_of}
use Rattle.judge_laws.specs.Exactly.{OtherRules, Exactly}
use Rattle.judge_laws.proofs.Bridge.{run_length, run_at}
use Rattle.judge_laws.proofs.Meaning.{accepted_good}

module _ (σ : Store) (i : ℕ) (limits : Limits σ) (w : OtherRules σ i) where
  -- no key of the run is below the first key
  first_least : (q : ℕ) → q < (entry_in σ i).end.0 - (entry_in σ i).base.0 → (entry_in σ i).first.0 ≤ get_or σ.keys ((entry_in σ i).base.0 + q) 0
  first_least zero h = rw (add-zero (entry_in σ i).base.0) (omega (arith, w.first))
  first_least (suc q) h =
      let run : _ = rising_split (run_in σ i) (used_in σ i) w.rising in
      let r : get_or (run_in σ i) 0 0 < get_or (run_in σ i) (suc q) 0 = rising_lt (run_in σ i) run.left 0 (suc q) (omega arith) (omega (arith, run_length σ i limits w.sound)) in
      let z : get_or (run_in σ i) 0 0 ≡ (entry_in σ i).first.0 = run_at σ i 0 (omega arith) ∙ ap (λ (m : ℕ). get_or σ.keys m 0) (add-zero (entry_in σ i).base.0) ∙ w.first in
      omega (arith, r, z, run_at σ i (suc q) h)

  exact_rules : Exactly σ i → Rules σ i
  exact_rules exact =
      record {
        sound = w.sound;
        nought = w.nought;
        first = w.first;
        rising = w.rising;
        not_before = w.not_before;
        run_apart = w.run_apart;
        used_apart = w.used_apart;
        windows = λ p a b.
            let e : (entry_in σ i).base.0 + (p - (entry_in σ i).base.0) ≡ p = omega arith in
            let f : (entry_in σ i).first.0 ≤ get_or σ.keys p 0 = rw e at (first_least (p - (entry_in σ i).base.0) (omega arith)) in
            exact_near (in_use σ) (entry_in σ i) (key_of (get_or σ.keys p 0)) p w.sound.run_some f a b (exact p a b);
      }

pub exact_good : (σ : Store) → Limits σ → ((i : ℕ) → i < σ.s → OtherRules σ i) → ((i : ℕ) → i < σ.s → Exactly σ i) → check_of σ ≡ Ok tt
exact_good σ limits others exact = accepted_good σ (record { limits = limits; rules = λ i h. exact_rules σ i limits (others i h) (exact i h) })
