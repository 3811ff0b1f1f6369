-- The segments of a store that keeps the rules: where each one's reads lie, and that all the reads, joined, strictly rise.
-- Assumes nothing.
use mathlib.Core.Path.{◌≡◌, ap, ◌∙◌}
use mathlib.Core.List.{append-nil}
use mathlib.Core.Logic.{⊎_elim}
use Prim.Native.Nat.{ℕ, zero, suc, ◌+◌, ◌-◌, ◌≤◌, ◌<◌}
use native.Mathlib.Nat.{add-zero}
use native.Mathlib.Omega.{arith}
use lib.ListN.{length, get_or}
use Rattle.lists.specs.Rising.{In}
use Rattle.lists.proofs.Rising.{Place, in_place, in_at, in_left, in_right, in_append, up_within, up_append}
use Rattle.lists.proofs.Merging.{in_merge, in_merge_left}
use Rattle.terms.specs.Keys.{IsKey, RisingKeys, RisingFrom}
use Rattle.terms.proofs.Keys.{rising_key}
use Rattle.table.specs.Store.{Store}
use Rattle.table.specs.Entries.{entry_in, run_in, used_in}
use Rattle.table.specs.Reads.{merged_in, stretch_of, reads}
use Rattle.judge.specs.Rules.{Rules, Accepted}
use Rattle.judge_laws.proofs.Bridge.{run_length, run_at}
use Rattle.judge_laws.specs.Covered.{InSegment}

-- ---- what is joined is in one of the segments, on any store

pub record Among (σ : Store) (k i c : ℕ) : Type 0 where
  pub segment : ℕ
  pub from : i ≤ segment
  pub below : segment < i + c
  pub held : In k (merged_in σ segment)

module _ (σ : Store) (k : ℕ) where
  pub in_stretch : (c i : ℕ) → In k (stretch_of σ i c) → Among σ k i c
  unfolding stretch_of
  in_stretch zero i j = absurd j
  in_stretch (suc c) i j =
      ⊎_elim (λ here. record { segment = i; from = omega arith; below = omega arith; held = here })
      (λ later.
      let w : Among σ k (suc i) c = in_stretch c (suc i) later in
      record { segment = w.segment; from = omega (arith, w.from); below = omega (arith, w.below); held = w.held })
      (in_append k (merged_in σ i) (stretch_of σ (suc i) c) j)

  -- d segments on
  pub stretch_in : (c i d : ℕ) → d < c → In k (merged_in σ (i + d)) → In k (stretch_of σ i c)
  unfolding stretch_of
  stretch_in zero i d h w = absurd (omega arith)
  stretch_in (suc c) i zero h w = in_left k (merged_in σ i) (stretch_of σ (suc i) c) (rw (add-zero i) at w)
  stretch_in (suc c) i (suc d) h w =
      let e : i + suc d ≡ suc i + d = omega arith in
      in_right k (merged_in σ i) (stretch_of σ (suc i) c) (stretch_in c (suc i) d (omega arith) (rw e at w))

  pub read_segment : In k (reads σ) → Among σ k 0 σ.s
  read_segment j = in_stretch σ.s 0 j

  pub segment_read : (i : ℕ) → InSegment σ k i → In k (reads σ)
  segment_read i w = let e : 0 + i ≡ i = omega arith in stretch_in σ.s 0 i w.segment (rw e w.held)

-- ---- on an accepted store

module _ (σ : Store) (ok : Accepted σ) where
  module _ (i : ℕ) (inside : i < σ.s) where
    rules : Rules σ i
    rules = ok.rules i inside

    -- the first key is one of the segment's reads
    pub first_held : In (entry_in σ i).first.0 (merged_in σ i)
    first_held =
        let l : length (run_in σ i) ≡ (entry_in σ i).end.0 - (entry_in σ i).base.0 = run_length σ i ok.limits rules.sound in
        let some : 0 < (entry_in σ i).end.0 - (entry_in σ i).base.0 = omega (arith, rules.sound.some) in
        let q : get_or (run_in σ i) 0 0 ≡ (entry_in σ i).first.0 = run_at σ i 0 some ∙ ap (λ (z : ℕ). get_or σ.keys z 0) (add-zero (entry_in σ i).base.0) ∙ rules.first in
        in_merge_left (entry_in σ i).first.0 (run_in σ i) (used_in σ i) (rw q at (in_at (run_in σ i) 0 (omega arith)))

    -- no key of a run is below the first key
    pub run_from : (k : ℕ) → In k (run_in σ i) → (entry_in σ i).first.0 ≤ k
    run_from k j =
        let w : Place k (run_in σ i) = in_place k (run_in σ i) j in
        let l : w.place < (entry_in σ i).end.0 - (entry_in σ i).base.0 = omega (arith, w.inside, run_length σ i ok.limits rules.sound) in
        omega (arith, w.is, run_at σ i w.place l, (rules.windows ((entry_in σ i).base.0 + w.place) (omega arith) (omega arith)).guessed)

    -- nor, after segment 0, is any of its reads
    pub held_from : 0 < i → (k : ℕ) → In k (merged_in σ i) → (entry_in σ i).first.0 ≤ k
    held_from h k j = ⊎_elim (λ l. run_from k l) (λ r. rules.not_before h k r) (in_merge k (run_in σ i) (used_in σ i) j)

    -- none of its reads reaches the next first key
    pub held_below : i + 1 < σ.s → (k : ℕ) → In k (merged_in σ i) → k < (entry_in σ (i + 1)).first.0
    held_below h k j = ⊎_elim (λ l. rules.run_apart h k l) (λ r. rules.used_apart h k r) (in_merge k (run_in σ i) (used_in σ i) j)

    pub held_key : (k : ℕ) → In k (merged_in σ i) → IsKey k
    held_key k j = rising_key k (merged_in σ i) rules.rising j

  -- First keys strictly rise.
  pub firsts_on : (d i : ℕ) → i + suc d < σ.s → (entry_in σ i).first.0 < (entry_in σ (i + suc d)).first.0
  firsts_on zero i h = held_below i (omega arith) h (entry_in σ i).first.0 (first_held i (omega arith))
  firsts_on (suc d) i h =
      let e : i + suc (suc d) ≡ i + suc d + 1 = omega arith in
      rw e (omega (arith, firsts_on d i (omega arith), held_below (i + suc d) (omega arith) (omega arith) (entry_in σ (i + suc d)).first.0 (first_held (i + suc d) (omega arith))))

  pub firsts_rise : (i j : ℕ) → i < j → j < σ.s → (entry_in σ i).first.0 < (entry_in σ j).first.0
  firsts_rise i j h l = let e : i + suc (j - i - 1) ≡ j = omega arith in rw e at (firsts_on (j - i - 1) i (omega arith))

  stretch_rises : (c i lo : ℕ) → i + c ≡ σ.s → (0 < c → (k : ℕ) → In k (merged_in σ i) → lo ≤ k) → RisingFrom lo (stretch_of σ i c)
  unfolding stretch_of
  stretch_rises zero i lo e from = tt
  stretch_rises (suc zero) i lo e from =
      rw (append-nil (merged_in σ i))
      (up_within 0 _ lo _ (merged_in σ i) (ok.rules i (omega arith)).rising (from (omega arith)) (held_key i (omega arith)))
  stretch_rises (suc (suc c)) i lo e from =
      let next : suc i < σ.s = omega arith in
      let s : i + 1 ≡ suc i = omega arith in
      let below : (k : ℕ) → In k (merged_in σ i) → k < (entry_in σ (suc i)).first.0 = rw s at (held_below i (omega arith) (omega arith)) in
      up_append lo (entry_in σ (suc i)).first.0 _ (merged_in σ i) (stretch_of σ (suc i) (suc c))
      (omega (arith, from (omega arith) (entry_in σ i).first.0 (first_held i (omega arith)), below (entry_in σ i).first.0 (first_held i (omega arith))))
      (omega (arith, (ok.rules (suc i) next).sound.first_small))
      (up_within 0 _ lo (entry_in σ (suc i)).first.0 (merged_in σ i) (ok.rules i (omega arith)).rising (from (omega arith)) below)
      (stretch_rises (suc c) (suc i) (entry_in σ (suc i)).first.0 (omega arith) (λ z. held_from (suc i) next (omega arith)))

  -- The reads of an accepted store, all segments joined, strictly rise and are keys.
  pub reads_rise : RisingKeys (reads σ)
  reads_rise = stretch_rises σ.s 0 0 (omega arith) (λ z k j. omega arith)
