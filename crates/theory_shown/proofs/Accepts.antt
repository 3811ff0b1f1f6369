-- A store within the limits that shows a list of segments in order is accepted.
-- Assumes nothing.
use mathlib.Core.Path.{◌≡◌, refl, sym, ap, subst, ◌∙◌}
use mathlib.Core.List.{List, [], ◌∷◌}
use Prim.Native.Nat.{ℕ, suc, ◌+◌, ◌-◌, ◌≤◌, ◌<◌}
use native.Mathlib.Omega.{arith}
use lib.Dec.{leb}
use lib.ListN.{length, get_or, drop, length-append}
use lib.Seq.{get_or-take, get_or-drop}
use borrow.Author.Tests.{leb-true, leb-false}
use Rattle.lists.specs.Rising.{In}
use Rattle.lists.proofs.Tests.{either}
use Rattle.lists.proofs.Rising.{lower, higher, in_up, in_below}
use Rattle.lists.proofs.Merging.{Split, merged_split}
use Rattle.terms.specs.Limits.{key_limit, key_of}
use Rattle.terms.specs.Keys.{RisingKeys}
use Rattle.terms.specs.declared.Entry.{Entry}
use Rattle.table.specs.Store.{Store, in_use}
use Rattle.table.specs.Limits.{Limits}
use Rattle.table.specs.Entries.{entry_in, run_in, used_in}
use Rattle.table.specs.Reads.{merged_in}
use Rattle.line.specs.Meaning.{Near}
use Rattle.judge.specs.Rules.{Rules, Accepted}
use Rattle.theory_segments.specs.Seg.{Seg, Close, Fair, ceil, all_of, Chain, runs_of}
use Rattle.theory_segments.proofs.Insert.{ceil_most}
use Rattle.theory_shown.specs.Shows.{seg_of, Shown}
use Rattle.theory_shown.proofs.Shown.{entry_by, shown_next, shown_entry, shown_keys, shown_segment}

module _ (σ : Store) (limits : Limits σ) where
  -- where the next segment begins
  next_first : (xs : List Seg) (i at : ℕ) (x : Seg) → Shown σ i at (x ∷ xs) → i + 1 < σ.s → ceil key_limit xs ≡ (entry_in σ (i + 1)).first.0
  next_first [] i at x w h = absurd (omega (arith, w.count))
  next_first (y ∷ ys) i at x w h =
      let e : suc i ≡ i + 1 = omega arith in
      sym (ap (λ (z : Entry). z.first.0) (shown_entry σ (suc i) (at + length x.keys) y ys (shown_next σ i at x (y ∷ ys) w))) ∙ ap (λ (m : ℕ). (entry_in σ m).first.0) e

  module _ (i at lo : ℕ) (x : Seg) (xs : List Seg) (w : Shown σ i at (x ∷ xs)) (chain : Chain (in_use σ) σ.b lo key_limit (x ∷ xs)) where
    abbrev top : ℕ
    top = ceil key_limit xs

    fair : Fair (in_use σ) σ.b x
    fair = chain.0

    end_most : at + length x.keys ≤ σ.n
    end_most = omega (arith, w.total, length-append x.keys (runs_of xs))

    top_most : top ≤ key_limit
    top_most = ceil_most (in_use σ) σ.b key_limit top xs chain.1.1

    run_is : run_in σ i ≡ x.keys
    unfolding seg_of
    run_is = ap (λ (y : Seg). y.keys) (shown_segment σ i at x xs w)

    used_is : used_in σ i ≡ x.used
    unfolding seg_of
    used_is = ap (λ (y : Seg). y.used) (shown_segment σ i at x xs w)

    all_is : merged_in σ i ≡ all_of x
    unfolding seg_of
    all_is = ap all_of (shown_segment σ i at x xs w)

    parts : Split lo top x.keys x.used
    parts = merged_split lo top x.keys x.used chain.1.0

    key_is : (m : ℕ) → m < length x.keys → get_or x.keys m 0 ≡ get_or σ.keys (at + m) 0
    key_is m h =
        ap (λ (l : List ℕ). get_or l m 0) (sym (shown_keys σ i at x xs w)) ∙ get_or-take (length x.keys) (drop at σ.keys) m 0 h ∙ get_or-drop at σ.keys m 0

    near_at : (m : ℕ) → m < length x.keys → Near (in_use σ) (entry_by at x) (key_of (get_or σ.keys (at + m) 0)) (at + m)
    near_at m h =
        let c : Close (in_use σ) x m = fair.close m h in
        rw (← key_is m h) (record { guessed = c.guessed; from_base = omega arith; before_end = omega arith; not_above = omega (arith, c.not_above); not_below = omega (arith, c.not_below) })

    near : (p : ℕ) → at ≤ p → p < at + length x.keys → Near (in_use σ) (entry_by at x) (key_of (get_or σ.keys p 0)) p
    near p a z =
        let e : at + (p - at) ≡ p = omega arith in
        subst (λ (r : ℕ). Near (in_use σ) (entry_by at x) (key_of (get_or σ.keys r 0)) r) e (near_at (p - at) (omega arith))

    first_here : (entry_in σ i).first.0 ≡ x.first
    first_here = ap (λ (z : Entry). z.first.0) (shown_entry σ i at x xs w)

    under : (k : ℕ) → i + 1 < σ.s → k < top → k < (entry_in σ (i + 1)).first.0
    under k h l = omega (arith, next_first xs i at x w h)

    shown_rules : (i ≡ 0 → at ≡ 0) → (0 < i → lo ≡ x.first) → Rules σ i
    shown_rules nought from =
        record {
          sound = rw (shown_entry σ i at x xs w) (omega (arith, fair, end_most));
          nought = rw (shown_entry σ i at x xs w) nought;
          first = rw (shown_entry σ i at x xs w) (
              let e : at + 0 ≡ at = omega arith in
              ap (λ (m : ℕ). get_or σ.keys m 0) (sym e) ∙ sym (key_is 0 fair.some) ∙ fair.first
              );
          rising = subst (λ (l : List ℕ). RisingKeys l) (sym all_is) (higher 0 top key_limit (all_of x) top_most (lower 0 lo top (all_of x) (omega arith) chain.1.0));
          not_before = λ h k j. omega (arith, from h, first_here, in_up lo top k x.used parts.right (subst (λ (l : List ℕ). In k l) used_is j));
          run_apart = λ h k j. under k h (in_below lo top k x.keys parts.left (subst (λ (l : List ℕ). In k l) run_is j));
          used_apart = λ h k j. under k h (in_below lo top k x.used parts.right (subst (λ (l : List ℕ). In k l) used_is j));
          windows = rw (shown_entry σ i at x xs w) near;
        }

  rules_from : (segs : List Seg) (i at lo : ℕ) → Shown σ i at segs → Chain (in_use σ) σ.b lo key_limit segs → (i ≡ 0 → at ≡ 0) → (0 < i → lo ≡ ceil key_limit segs) →
      (j : ℕ) → i ≤ j → j < σ.s → Rules σ j
  rules_from [] i at lo w c nought from j h g = absurd (omega (arith, w.count))
  rules_from (x ∷ xs) i at lo w c nought from j h g =
      either (leb (suc i) j)
      (λ t. rules_from xs (suc i) (at + length x.keys) (ceil key_limit xs) (shown_next σ i at x xs w) c.1.1 (λ z. absurd (omega arith)) (λ z. refl) j (leb-true _ _ t) g)
      (λ t. let e : i ≡ j = omega (arith, leb-false (suc i) j t) in subst (λ (m : ℕ). Rules σ m) e (shown_rules i at lo x xs w c nought from))

  pub shown_accepted : (segs : List Seg) → Shown σ 0 0 segs → Chain (in_use σ) σ.b 0 key_limit segs → Accepted σ
  shown_accepted segs w c = record { limits = limits; rules = λ i h. rules_from segs 0 0 0 w c (λ z. refl) (λ z. absurd (omega arith)) i (omega arith) h }
