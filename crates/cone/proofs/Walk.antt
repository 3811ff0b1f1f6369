-- A walk over the keys of a list with a cone for the open segment. The keys are handed in one by one, each with the equation that it is
-- the list's next, so the list itself need not be written out anywhere.
-- Assumes nothing.
use Rattle.std.specs.Prelude.{Option, Some, None}
use mathlib.Core.Path.{◌≡◌, refl, sym, ap, ◌∙◌}
use mathlib.Core.Bool.{true, false}
use mathlib.Core.List.{List, [], ◌∷◌}
use Prim.Native.Nat.{ℕ, suc, ◌+◌, ◌≤◌, ◌<◌}
use native.Mathlib.Numerals.{add-one}
use native.Mathlib.Omega.{arith}
use lib.ListN.{length, get_or, drop, length-drop}
use lib.Seq.{drop-drop}
use Rattle.lists.proofs.Rising.{in_at}
use Rattle.terms.specs.Limits.{e_most, cut_most}
use Rattle.terms.specs.Keys.{IsKey}
use Rattle.terms.proofs.Keys.{rising_key, rising_lt}
use Rattle.cone.specs.declared.Cone.{Cone}
use Rattle.cone.specs.Rule.{far, joins, Segment, segment_of, cut_from, cut}
use Rattle.cone.specs.Step.{Ready, start_of, grown, lets, step_of}
use Rattle.cone.specs.Keys.{Cuttable}
use Rattle.cone.specs.Walk.{Open, Walk}
use Rattle.cone.proofs.Rules.{cut_joined, cut_apart, cut_end, cut_start}
use Rattle.cone.proofs.Laws.{started, decides, joined, fit_start, fit_grown, step_joined, step_apart}

-- the key that comes next: a key, above the first of the open segment
pub record Next (ks : List ℕ) (j : ℕ) (c : Cone) (key : ℕ) : Type 0 where
  pub more : j < length ks
  pub is : key ≡ get_or ks j 0
  pub small : IsKey key
  pub after : c.origin.0 < key

pub open_start : (e : ℕ) (ks : List ℕ) (i : ℕ) {key : ℕ} → i < length ks → key ≡ get_or ks i 0 → Open e ks i (i + 1) (start_of e key)
open_start e ks i {key} some is =
    record { inside = omega arith; counted = refl; describes = rw is (started e ks i); fit = fit_start e key }

module _ {e : ℕ} {ks : List ℕ} {i j : ℕ} {c : Cone} (w : Open e ks i j c) where
  -- the next of keys that can be cut
  pub next_key : {key : ℕ} → Cuttable e ks → j < length ks → key ≡ get_or ks j 0 → Next ks j c key
  next_key {key} keys more is =
      record {
        more = more;
        is = is;
        small = rw is (rising_key (get_or ks j 0) ks keys.rising (in_at ks j more));
        after = rw (is, w.describes.origin) (rising_lt ks keys.rising i j (omega (arith, w.counted, w.describes.some)) more);
      }

  module _ {key : ℕ} (next : Next ks j c key) where
    -- the key is the one that the cone's own count leads to
    at : key ≡ get_or ks (i + c.count) 0
    at = next.is ∙ ap (λ (p : ℕ). get_or ks p 0) (sym w.counted)

    rises : 0 < far ks i c.count
    rises = omega (arith, next.after, at, w.describes.origin)

    pub open_ready : e ≤ e_most → length ks ≤ cut_most → Ready e c (record { 0 = key })
    open_ready bound few =
        record {
          bound = bound;
          small = next.small;
          after = next.after;
          few = omega (arith, w.counted, next.more);
          flat_top = w.fit.flat_top;
          flat_bottom = w.fit.flat_bottom;
          flat_slack = w.fit.flat_slack;
          steep_top = w.fit.steep_top;
          steep_bottom = w.fit.steep_bottom;
          steep_slack = w.fit.steep_slack;
        }

    -- the cone's test is the rule
    joins_is : lets c key ≡ joins e ks i c.count
    joins_is = rw at (decides e ks i c w.describes)

    grows : Open e ks i (j + 1) (grown e c key)
    grows =
        record {
          inside = omega (arith, next.more);
          counted = omega (arith, w.counted);
          describes = rw at (joined e ks i c w.describes w.fit rises);
          fit = fit_grown e c key next.small w.fit;
        }

    -- what a step answered: the key joins by the rule, and the cone stands for one key more
    pub open_joins : {s : Option Cone} {d : Cone} → s ≡ step_of e c key → s ≡ Some d → joins e ks i c.count ≡ true
    open_joins is q = sym joins_is ∙ (step_joined e c key is q).0

    pub open_count : {s : Option Cone} {d : Cone} → s ≡ step_of e c key → s ≡ Some d → d.count ≡ c.count + 1
    open_count {s} {d} is q = ap (λ (d : Cone). d.count) (step_joined e c key is q).1

    pub open_joined : {s : Option Cone} {d : Cone} → s ≡ step_of e c key → s ≡ Some d → Open e ks i (j + 1) d
    open_joined {s} {d} is q = let t : d ≡ grown e c key = (step_joined e c key is q).1 in rw t grows

    -- or it does not, and starts the next segment
    pub open_apart : {s : Option Cone} → s ≡ step_of e c key → s ≡ None → joins e ks i c.count ≡ false
    open_apart is q = sym joins_is ∙ step_apart e c key is q

-- ---- counting segments: n are closed, one is open, and the rest of the cut is the cut from there

pub walk_start : (e : ℕ) (ks : List ℕ) {key : ℕ} → 0 < length ks → key ≡ get_or ks 0 0 → Walk e ks 0 0 1 (start_of e key)
walk_start e ks some is = record { segment = open_start e ks 0 some is; closed = omega arith; rest = λ r q. cut_start e ks r q }

module _ {e : ℕ} {ks : List ℕ} {n i j : ℕ} {c : Cone} {key : ℕ} (w : Walk e ks n i j c) (next : Next ks j c key) where
  pub walk_ready : e ≤ e_most → length ks ≤ cut_most → Ready e c (record { 0 = key })
  walk_ready bound few = open_ready w.segment next bound few

  pub walk_joined : {s : Option Cone} {d : Cone} → s ≡ step_of e c key → s ≡ Some d → Walk e ks n i (j + 1) d
  walk_joined {s} {d} is q =
      let more : j < length ks = next.more in
      let one : d.count ≡ suc c.count = open_count w.segment next is q ∙ add-one c.count in
      record {
        segment = open_joined w.segment next is q;
        closed = w.closed;
        rest = λ r p. w.rest (suc r) (omega arith) ∙ cut_joined e ks i c.count r (open_joins w.segment next is q) ∙ ap (λ (m : ℕ). cut_from e ks i m r) (sym one);
      }

  pub walk_apart : {s : Option Cone} → s ≡ step_of e c key → s ≡ None → Walk e ks (n + 1) j (j + 1) (start_of e key)
  walk_apart is q =
      record {
        segment = open_start e ks j next.more next.is;
        closed = omega (arith, w.segment.describes.some, w.segment.counted, w.closed);
        rest = λ r p.
            sym (drop-drop 1 n (cut e ks))
            ∙ ap (λ (l : List Segment). drop 1 l) (w.rest (suc r) (omega arith) ∙ cut_apart e ks i c.count r (open_apart w.segment next is q))
            ∙ ap (λ (m : ℕ). cut_from e ks m 1 r) w.segment.counted;
      }

-- at the end one segment is open
pub walk_counts : {e : ℕ} {ks : List ℕ} {n i j : ℕ} {c : Cone} → Walk e ks n i j c → length ks ≤ j → n + 1 ≡ length (cut e ks)
walk_counts {e} {ks} {n} {i} {j} {c} w over =
    let q : drop n (cut e ks) ≡ segment_of ks i c.count ∷ [] = w.rest 0 (omega (arith, w.segment.inside)) ∙ cut_end e ks i c.count in
    omega (arith, simp length-drop at (ap length q))
