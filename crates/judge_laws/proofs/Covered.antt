-- Demand 3b: in an accepted store every read is covered by exactly one segment, and each read in a run lies within e of its guess.
-- Assumes nothing.
use mathlib.Core.Path.{◌≡◌, refl}
use Prim.Native.Nat.{ℕ, zero, suc, ◌+◌, ◌-◌, ◌≤◌, ◌<◌}
use native.Mathlib.Omega.{arith}
use lib.Dec.{leb, ltb}
use lib.ListN.{get_or}
use borrow.Author.Tests.{leb-true, leb-false, ltb-true, ltb-false, lt-ltb, le-ltb}
use Rattle.lists.specs.Rising.{In}
use Rattle.lists.proofs.Tests.{either}
use Rattle.terms.specs.Limits.{key_of}
use Rattle.table.specs.Store.{Store, in_use}
use Rattle.table.specs.Entries.{entry_of, entry_in}
use Rattle.table.specs.Reads.{reads}
use Rattle.choose.proofs.Chosen.{one_choice}
use Rattle.line.specs.Meaning.{Near}
use Rattle.judge.specs.Rules.{Accepted}
use Rattle.judge_laws.specs.Covered.{One, InRun, InSegment, EndToEnd}
use Rattle.judge_laws.proofs.Segments.{Among, read_segment}
use Rattle.judge_laws.proofs.Whereabouts.{holder_chosen}

pub end_next : (σ : Store) (i : ℕ) → i + 1 < σ.s → (entry_in σ i).end.0 ≡ (entry_in σ (i + 1)).base.0
unfolding entry_of
end_next σ i h = simp (lt-ltb _ _ h)

pub end_last : (σ : Store) (i : ℕ) → i + 1 ≡ σ.s → (entry_in σ i).end.0 ≡ σ.n
unfolding entry_of
end_last σ i h = let l : σ.s ≤ i + 1 = omega arith in simp (le-ltb _ _ l)

module _ (σ : Store) (ok : Accepted σ) where
  bases_on : (d i : ℕ) → i + suc d < σ.s → (entry_in σ i).end.0 ≤ (entry_in σ (i + suc d)).base.0
  bases_on zero i h = omega (arith, end_next σ i h)
  bases_on (suc d) i h =
      let e : i + suc (suc d) ≡ i + suc d + 1 = omega arith in
      rw e (omega (arith, bases_on d i (omega arith), end_next σ (i + suc d) (omega arith), (ok.rules (i + suc d) (omega arith)).sound.some))

  -- a later segment begins at or after the end
  later_base : (i j : ℕ) → i < j → j < σ.s → (entry_in σ i).end.0 ≤ (entry_in σ j).base.0
  later_base i j h l = let e : i + suc (j - i - 1) ≡ j = omega arith in rw e at (bases_on (j - i - 1) i (omega arith))

  -- The runs lie end to end: the first base is 0, each end is the next base, the last end is n, and bases strictly rise.
  pub end_to_end : EndToEnd σ
  end_to_end =
      record {
        begins = (ok.rules 0 (omega (arith, ok.limits))).nought refl;
        meets = end_next σ;
        ends = end_last σ;
        rises = λ i j h l. omega (arith, later_base i j h l, (ok.rules i (omega arith)).sound.some);
      }

  one_run : (p i j : ℕ) → InRun σ p i → InRun σ p j → j ≡ i
  one_run p i j v w =
      either (ltb i j) (λ t. absurd (omega (arith, v.before_end, w.from_base, later_base i j (ltb-true _ _ t) w.segment)))
      (λ t. either (ltb j i) (λ u. absurd (omega (arith, w.before_end, v.from_base, later_base j i (ltb-true _ _ u) v.segment)))
      (λ u. omega (arith, ltb-false i j t, ltb-false j i u)))

  -- the segment of a position, looked for from i down
  run_of : (p i : ℕ) → i < σ.s → p < (entry_in σ i).end.0 → One (InRun σ p)
  run_of p zero h b =
      let w : InRun σ p 0 = record { segment = h; from_base = omega (arith, end_to_end.begins); before_end = b } in
      record { which = 0; has = w; alone = λ j v. one_run p 0 j w v }
  run_of p (suc i) h b =
      either (leb (entry_in σ (suc i)).base.0 p)
      (λ t.
      let w : InRun σ p (suc i) = record { segment = h; from_base = leb-true _ _ t; before_end = b } in
      record { which = suc i; has = w; alone = λ j v. one_run p (suc i) j w v })
      (λ t.
      let s : i + 1 ≡ suc i = omega arith in
      let e : (entry_in σ i).end.0 ≡ (entry_in σ (suc i)).base.0 = rw s at (end_next σ i (omega arith)) in
      run_of p i (omega arith) (omega (arith, e, leb-false (entry_in σ (suc i)).base.0 p t)))

  -- Every position below n lies in the run of exactly one segment.
  pub position_covered : (p : ℕ) → p < σ.n → One (InRun σ p)
  position_covered p h = run_of p (σ.s - 1) (omega (arith, ok.limits)) (omega (arith, ok.limits, end_last σ (σ.s - 1) (omega (arith, ok.limits))))

  -- Every read is in exactly one segment.
  pub read_covered : (k : ℕ) → In k (reads σ) → One (InSegment σ k)
  read_covered k j =
      let w : Among σ k 0 σ.s = read_segment σ k j in
      let here : InSegment σ k w.segment = record { segment = omega (arith, w.below); held = w.held } in
      record { which = w.segment; has = here; alone = λ z v. one_choice σ.table k σ.s z w.segment (holder_chosen σ ok k z v) (holder_chosen σ ok k w.segment here) }

  -- Each read in a run lies within e of its guess.
  pub read_near : (p i : ℕ) → InRun σ p i → Near (in_use σ) (entry_in σ i) (key_of (get_or σ.keys p 0)) p
  read_near p i w = (ok.rules i w.segment).windows p w.from_base w.before_end
