-- The cut of a rising list is a cutting: its segments are in order, hold nothing, and make up the list; and its rows are the segments' rows.
-- Assumes nothing.
use mathlib.Core.Path.{◌≡◌, refl, sym, ap, ◌∙◌}
use mathlib.Core.List.{List, [], ◌∷◌}
use Prim.Native.Nat.{ℕ, suc, ◌+◌, ◌≤◌, ◌<◌}
use native.Mathlib.Nat.{add-zero}
use native.Mathlib.Omega.{arith}
use lib.ListN.{length, get_or, drop, length-drop, take-append-drop}
use lib.Seq.{get_or-take, get_or-drop, length-take-le, drop-drop, drop-length}
use Rattle.line.proofs.Exact.{quotient_most, quotient_least}
use Rattle.cone.specs.Rule.{Segment, cut}
use Rattle.cone.specs.Keys.{Cuttable}
use Rattle.cone.specs.Cover.{Every, Tiled, Closed, Hit, Small}
use Rattle.cone.proofs.Cover.{parted, closed, covered, small}
use Rattle.cutting.specs.Rows.{rows_of}
use Rattle.theory_segments.specs.Seg.{Close, Fair, Fairs, Bare, runs_of, Cutting}
use Rattle.theory_segments.specs.Cuts.{seg_by, segs_by, cut_segs, rows}

pub length_segs_by : (ks : List ℕ) (xs : List Segment) → length (segs_by ks xs) ≡ length xs
length_segs_by ks [] = refl
length_segs_by ks (x ∷ xs) = ap suc (length_segs_by ks xs)

module _ (ks : List ℕ) (x : Segment) (c : Closed ks x) where
  length_keys : length (seg_by ks x).keys ≡ x.rise + 1
  length_keys = length-take-le (x.rise + 1) (drop x.base ks) (omega (arith, length-drop x.base ks, c.inside))

  key_is : (m : ℕ) → m ≤ x.rise → get_or (seg_by ks x).keys m 0 ≡ get_or ks (x.base + m) 0
  key_is m h = get_or-take (x.rise + 1) (drop x.base ks) m 0 (omega arith) ∙ get_or-drop x.base ks m 0

  -- a segment whose keys are hit is fair
  module _ (e b : ℕ) (slots : 0 < b) (s : Small x) (hit : (m : ℕ) → m ≤ x.rise → Hit e x (get_or ks (x.base + m) 0) m) where
    close : (m : ℕ) → m ≤ x.rise → Close e (seg_by ks x) m
    close m h =
        let w : Hit e x (get_or ks (x.base + m) 0) m = hit m h in
        let q : get_or (seg_by ks x).keys m 0 ≡ get_or ks (x.base + m) 0 = key_is m h in
        record {
          guessed = rw q w.from_first;
          not_above = rw q (quotient_least _ _ _ _ s.run_some w.not_below);
          not_below = rw q (quotient_most _ _ _ _ s.run_some w.not_above);
        }

    fair : Fair e b (seg_by ks x)
    fair =
        record {
          first_small = s.first_small;
          run_some = s.run_some;
          run_small = s.run_small;
          rise_limit = s.rise_limit;
          some = omega (arith, length_keys);
          first = key_is 0 (omega arith) ∙ ap (λ (m : ℕ). get_or ks m 0) (add-zero x.base) ∙ sym c.first_is;
          held = slots;
          close = λ m h. close m (omega (arith, length_keys));
        }

-- the runs of segments that stand side by side
whole_from : (ks : List ℕ) (xs : List Segment) (i : ℕ) → Tiled ks i xs → Every (Closed ks) xs → runs_of (segs_by ks xs) ≡ drop i ks
whole_from ks [] i t c = sym (ap (λ (m : ℕ). drop m ks) t ∙ drop-length ks)
whole_from ks (x ∷ xs) i t c =
    rw (whole_from ks xs (i + (x.rise + 1)) t.1 c.1, t.0, ← drop-drop (x.rise + 1) i ks) (take-append-drop (x.rise + 1) (drop i ks))

bares : (ks : List ℕ) (xs : List Segment) → Bare (segs_by ks xs)
bares ks [] = tt
bares ks (x ∷ xs) = (refl, bares ks xs)

fairs : (e b : ℕ) (ks : List ℕ) → 0 < b → (xs : List Segment) → Every (Closed ks) xs → Every Small xs → Every (λ x. (m : ℕ) → m ≤ x.rise → Hit e x (get_or ks (x.base + m) 0) m) xs → Fairs e b (segs_by ks xs)
fairs e b ks slots [] c s h = tt
fairs e b ks slots (x ∷ xs) c s h = (fair ks x c.0 e b slots s.0 h.0, fairs e b ks slots xs c.1 s.1 h.1)

pub cutting : (e b : ℕ) (ks : List ℕ) → 0 < b → Cuttable e ks → Cutting e b ks (cut_segs e ks)
cutting e b ks slots keys =
    record {
      fair = fairs e b ks slots (cut e ks) (closed e ks) (small keys) (covered keys);
      bare = bares ks (cut e ks);
      whole = whole_from ks (cut e ks) 0 (parted e ks) (closed e ks);
    }

-- ---- the rows

rows_from : (ks : List ℕ) (at : ℕ) (xs : List Segment) (i : ℕ) → Tiled ks i xs → Every (Closed ks) xs → rows_of at xs ≡ rows (at + i) (segs_by ks xs)
unfolding rows_of
rows_from ks at [] i t c = refl
rows_from ks at (x ∷ xs) i t c =
    let e : at + (i + (x.rise + 1)) ≡ at + i + length (seg_by ks x).keys = omega (arith, length_keys ks x c.0) in
    ap (λ (m : ℕ). x.first ∷ ((at + m) ∷ (x.rise ∷ (x.run ∷ (0 ∷ rows_of at xs))))) t.0
    ∙ ap (λ (l : List ℕ). x.first ∷ ((at + i) ∷ (x.rise ∷ (x.run ∷ (0 ∷ l)))))
    (rows_from ks at xs (i + (x.rise + 1)) t.1 c.1 ∙ ap (λ (m : ℕ). rows m (segs_by ks xs)) e)

-- the entries of a cut, bases from `at` on, are those of its segments
pub rows_cut : (e : ℕ) (ks : List ℕ) (at : ℕ) → rows_of at (cut e ks) ≡ rows at (cut_segs e ks)
rows_cut e ks at = rows_from ks at (cut e ks) 0 (parted e ks) (closed e ks) ∙ ap (λ (m : ℕ). rows m (cut_segs e ks)) (add-zero at)
