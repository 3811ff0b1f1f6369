-- A walk along the records ends where the order of the image says, and nothing else answers to that.
-- Assumes nothing.
use Rattle.std.specs.Prelude.{Result, Ok, Err}
use mathlib.Core.Path.{◌≡◌, refl, sym, ap, ◌∙◌}
use mathlib.Core.Bool.{true, false}
use mathlib.Core.List.{List, [], ◌∷◌}
use Prim.Native.Nat.{ℕ, zero, suc, ◌+◌, ◌<◌}
use native.Mathlib.Nat.{not-suc-le-zero}
use native.Mathlib.Omega.{arith}
use lib.Dec.{leb, ltb}
use lib.ListN.{length}
use borrow.Author.Tests.{leb-true, leb-false, ltb-true, ltb-false, lt-ltb}
use Rattle.lists.proofs.Tests.{all_each, each_all, either, clash}
use Rattle.image_records.specs.Records.{Stands, stands_at, walk_of, after_of, and_then}
use Rattle.image_records.specs.Images.{held_at, segment_at, part_of, parts_of, end_of, rest_of}
use Rattle.image_records.specs.Meaning.{Row, RowBroken, Segment, Whole, Broken, segment_broken, key_broken, segment_place, Segments, SegmentsBroken, Body, end_place, Rest, whole, run_broken, segments_broken, end_broken, more_bytes}
use Rattle.image_records.specs.declared.Kind.{Kind}
use Rattle.image_records.specs.declared.Layout.{Layout}
use Rattle.image_records.proofs.Records.{stands_true, true_stands}

falls : {k : Kind} {l : List ℕ} {at : ℕ} → stands_at k l at ≡ false → Stands k l at → ⊥
falls {k} {l} {at} t w = clash (sym (true_stands k l at w) ∙ t)

-- two lowest numbers that break the same thing are one
lowest_one : (P : ℕ → Type 0) (i j : ℕ) → ((m : ℕ) → m < i → P m) → (P i → ⊥) → ((m : ℕ) → m < j → P m) → (P j → ⊥) → i ≡ j
lowest_one P i j a x c y =
    either (ltb i j) (λ t. absurd (x (c i (ltb-true i j t))))
    (λ t. either (ltb j i) (λ u. absurd (y (a j (ltb-true j i u)))) (λ u. omega (arith, ltb-false i j t, ltb-false j i u)))

-- ---- a row of records

-- where a walk along a row ends
abbrev Ended : Kind → List ℕ → ℕ → ℕ → Result ℕ ℕ → Type 0
Ended k l count at (Ok z) = Row k l at count × (z ≡ after_of k count at)
Ended k l count at (Err p) = RowBroken k l at count p

module _ (k : Kind) (l : List ℕ) where
  after_zero : (at : ℕ) → after_of k 0 at ≡ at
  unfolding after_of
  after_zero at = refl

  after_suc : (j at : ℕ) → after_of k (suc j) at ≡ after_of k j (at + k.size)
  unfolding after_of
  after_suc j at = refl

  -- one record more in front
  row_more : (count at : ℕ) → Stands k l at → Row k l (at + k.size) count → Row k l at (suc count)
  row_more count at here rest zero h = rw (after_zero at) here
  row_more count at here rest (suc j) h = rw (after_suc j at) (rest j (omega arith))

  ended_more : (count at : ℕ) → Stands k l at → (w : Result ℕ ℕ) → Ended k l count (at + k.size) w → Ended k l (suc count) at w
  ended_more count at here (Ok z) e = (row_more count at here e.0, e.1 ∙ sym (after_suc count at))
  ended_more count at here (Err p) e =
      record {
        number = suc e.number;
        below = omega (arith, e.below);
        before = row_more e.number at here e.before;
        here = λ s. e.here (rw (after_suc e.number at) at s);
        place = e.place ∙ sym (after_suc e.number at);
      }

  pub walk_ended : (count at : ℕ) → Ended k l count at (walk_of k l count at)
  unfolding walk_of
  walk_ended zero at = ((λ j h. absurd (not-suc-le-zero h)), sym (after_zero at))
  walk_ended (suc count) at =
      either (stands_at k l at) (λ t. simp t (ended_more count at (stands_true k l at t) (walk_of k l count (at + k.size)) (walk_ended count (at + k.size))))
      (λ t. simp t (record { number = 0; below = omega arith; before = λ j h. absurd (not-suc-le-zero h); here = λ s. falls t (rw (after_zero at) at s); place = sym (after_zero at) }))

  -- a row that stands has no first fault, and one that has a fault has one first
  pub row_clash : (count at p : ℕ) → Row k l at count → RowBroken k l at count p → ⊥
  row_clash count at p r e = e.here (r e.number e.below)

  pub row_one : (count at p q : ℕ) → RowBroken k l at count p → RowBroken k l at count q → p ≡ q
  row_one count at p q x y =
      let e : x.number ≡ y.number = lowest_one (λ m. Stands k l (after_of k m at)) x.number y.number x.before x.here y.before y.here in
      x.place ∙ ap (λ (m : ℕ). after_of k m at) e ∙ sym y.place

-- ---- a segment and its buffered keys

abbrev PartEnded : Layout → ℕ → List ℕ → ℕ → Result ℕ ℕ → Type 0
PartEnded f b l at (Ok z) = Whole f b l at × (z ≡ after_of f.buffered (held_at f l at) (at + f.segment.size))
PartEnded f b l at (Err p) = Broken f b l at p

module _ (f : Layout) (b : ℕ) (l : List ℕ) where
  segment_true : (at : ℕ) → segment_at f b l at ≡ true → Segment f b l at
  unfolding segment_at
  segment_true at h =
      let u : _ = all_each (stands_at f.segment l at ∷ (ltb (held_at f l at) b ∷ [])) h in
      record { stands = stands_true f.segment l at u.0; few = ltb-true (held_at f l at) b u.1.0 }

  true_segment : (at : ℕ) → Segment f b l at → segment_at f b l at ≡ true
  unfolding segment_at
  true_segment at h =
      each_all (stands_at f.segment l at ∷ (ltb (held_at f l at) b ∷ [])) (true_stands f.segment l at h.stands, (lt-ltb (held_at f l at) b h.few, tt))

  keys_ended : (at : ℕ) → Segment f b l at → (w : Result ℕ ℕ) → Ended f.buffered l (held_at f l at) (at + f.segment.size) w → PartEnded f b l at w
  keys_ended at g (Ok z) e = (record { segment = g; keys = e.0 }, e.1)
  keys_ended at g (Err p) e = key_broken g e

  pub part_ended : (at : ℕ) → PartEnded f b l at (part_of f b l at)
  unfolding part_of
  part_ended at =
      either (segment_at f b l at)
      (λ t. simp t (keys_ended at (segment_true at t) (walk_of f.buffered l (held_at f l at) (at + f.segment.size)) (walk_ended f.buffered l (held_at f l at) (at + f.segment.size))))
      (λ t. simp t (segment_broken (λ g. clash (sym (true_segment at g) ∙ t))))

  whole_clash : (at p : ℕ) → Whole f b l at → Broken f b l at p → ⊥
  whole_clash at p w (segment_broken x) = x w.segment
  whole_clash at p w (key_broken g x) = row_clash f.buffered l (held_at f l at) (at + f.segment.size) p w.keys x

  part_one : (at p q : ℕ) → Broken f b l at p → Broken f b l at q → p ≡ q
  part_one at p q (segment_broken x) (segment_broken y) = refl
  part_one at p q (segment_broken x) (key_broken g y) = absurd (x g)
  part_one at p q (key_broken g x) (segment_broken y) = absurd (y g)
  part_one at p q (key_broken g x) (key_broken h y) = row_one f.buffered l (held_at f l at) (at + f.segment.size) p q x y

  -- ---- all the segments

  abbrev next : ℕ → ℕ
  next at = after_of f.buffered (held_at f l at) (at + f.segment.size)

  place_zero : (at : ℕ) → segment_place f l 0 at ≡ at
  unfolding segment_place
  place_zero at = refl

  place_suc : (i at : ℕ) → segment_place f l (suc i) at ≡ segment_place f l i (next at)
  unfolding segment_place
  place_suc i at = refl

  segments_more : (s at : ℕ) → Whole f b l at → Segments f b l (next at) s → Segments f b l at (suc s)
  segments_more s at here rest zero h = rw (place_zero at) here
  segments_more s at here rest (suc i) h = rw (place_suc i at) (rest i (omega arith))

  abbrev SegmentsEnded : ℕ → ℕ → Result ℕ ℕ → Type 0
  SegmentsEnded s at (Ok z) = Segments f b l at s × (z ≡ segment_place f l s at)
  SegmentsEnded s at (Err p) = SegmentsBroken f b l at s p

  parts_more : (s at : ℕ) → Whole f b l at → (w : Result ℕ ℕ) → SegmentsEnded s (next at) w → SegmentsEnded (suc s) at w
  parts_more s at here (Ok z) e = (segments_more s at here e.0, e.1 ∙ sym (place_suc s at))
  parts_more s at here (Err p) e =
      record {
        number = suc e.number;
        below = omega (arith, e.below);
        before = segments_more e.number at here e.before;
        here = rw (place_suc e.number at) e.here;
      }

  part_then : (s at : ℕ) → SegmentsEnded s (next at) (parts_of f b l s (next at)) → (w : Result ℕ ℕ) → PartEnded f b l at w →
      SegmentsEnded (suc s) at (and_then w (λ z. parts_of f b l s z))
  part_then s at rest (Ok z) e = rw e.1 (parts_more s at e.0 (parts_of f b l s (next at)) rest)
  part_then s at rest (Err p) e = record { number = 0; below = omega arith; before = λ i h. absurd (not-suc-le-zero h); here = rw (place_zero at) e }

  pub parts_ended : (s at : ℕ) → SegmentsEnded s at (parts_of f b l s at)
  unfolding parts_of
  parts_ended zero at = ((λ i h. absurd (not-suc-le-zero h)), sym (place_zero at))
  parts_ended (suc s) at = part_then s at (parts_ended s (next at)) (part_of f b l at) (part_ended at)

  pub segments_clash : (s at p : ℕ) → Segments f b l at s → SegmentsBroken f b l at s p → ⊥
  segments_clash s at p r e = whole_clash (segment_place f l e.number at) p (r e.number e.below) e.here

  pub segments_one : (s at p q : ℕ) → SegmentsBroken f b l at s p → SegmentsBroken f b l at s q → p ≡ q
  segments_one s at p q x y =
      let e : x.number ≡ y.number =
      lowest_one (λ m. Whole f b l (segment_place f l m at)) x.number y.number x.before (λ w. whole_clash (segment_place f l x.number at) p w x.here) y.before
      (λ w. whole_clash (segment_place f l y.number at) q w y.here) in
      part_one (segment_place f l y.number at) p q (rw e at x.here) y.here

-- ---- all that follows the head

module _ (f : Layout) (l : List ℕ) (b n s at : ℕ) where
  abbrev last : ℕ
  last = end_place f l n s at

  body_ended : Body f l b n s at → Rest f l b n s at (end_of f l last)
  unfolding end_of
  body_ended g =
      either (stands_at f.end l last)
      (λ t. either (leb (length l) (last + f.end.size)) (λ u. simp (t, u) (whole g (stands_true f.end l last t) (leb-true (length l) (last + f.end.size) u)))
      (λ u. simp (t, u) (more_bytes g (stands_true f.end l last t) (leb-false (length l) (last + f.end.size) u))))
      (λ t. simp t (end_broken g (falls t)))

  segments_ended : Row f.key l at n → (w : Result ℕ ℕ) → SegmentsEnded f b l s (after_of f.key n at) w → Rest f l b n s at (and_then w (λ z. end_of f l z))
  segments_ended r (Ok z) e = rw e.1 (body_ended (record { keys = r; segments = e.0 }))
  segments_ended r (Err p) e = segments_broken r e

  run_ended : (w : Result ℕ ℕ) → Ended f.key l n at w → Rest f l b n s at (and_then w (λ k. and_then (parts_of f b l s k) (λ z. end_of f l z)))
  run_ended (Ok z) e = rw e.1 (segments_ended e.0 (parts_of f b l s (after_of f.key n at)) (parts_ended f b l s (after_of f.key n at)))
  run_ended (Err p) e = run_broken e

  -- the walk ends where it should
  pub rest_is : Rest f l b n s at (rest_of f l b n s at)
  unfolding rest_of
  rest_is = run_ended (walk_of f.key l n at) (walk_ended f.key l n at)

  -- and there is one such end
  pub rest_one : (v w : Result ℕ ℕ) → Rest f l b n s at v → Rest f l b n s at w → v ≡ w
  rest_one v w (whole g x h) (whole g' x' h') = refl
  rest_one v w (whole g x h) (run_broken {p} y) = absurd (row_clash f.key l n at p g.keys y)
  rest_one v w (whole g x h) (segments_broken {p} r y) = absurd (segments_clash f b l s (after_of f.key n at) p g.segments y)
  rest_one v w (whole g x h) (end_broken g' y) = absurd (y x)
  rest_one v w (whole g x h) (more_bytes g' y k) = absurd (omega arith)
  rest_one v w (run_broken {p} x) (whole g' y h') = absurd (row_clash f.key l n at p g'.keys x)
  rest_one v w (run_broken {p} x) (run_broken {p = q} y) = ap Err (row_one f.key l n at p q x y)
  rest_one v w (run_broken {p} x) (segments_broken r y) = absurd (row_clash f.key l n at p r x)
  rest_one v w (run_broken {p} x) (end_broken g' y) = absurd (row_clash f.key l n at p g'.keys x)
  rest_one v w (run_broken {p} x) (more_bytes g' y k) = absurd (row_clash f.key l n at p g'.keys x)
  rest_one v w (segments_broken {p} r x) (whole g' y h') = absurd (segments_clash f b l s (after_of f.key n at) p g'.segments x)
  rest_one v w (segments_broken r x) (run_broken {p = q} y) = absurd (row_clash f.key l n at q r y)
  rest_one v w (segments_broken {p} r x) (segments_broken {p = q} r' y) = ap Err (segments_one f b l s (after_of f.key n at) p q x y)
  rest_one v w (segments_broken {p} r x) (end_broken g' y) = absurd (segments_clash f b l s (after_of f.key n at) p g'.segments x)
  rest_one v w (segments_broken {p} r x) (more_bytes g' y k) = absurd (segments_clash f b l s (after_of f.key n at) p g'.segments x)
  rest_one v w (end_broken g x) (whole g' y h') = absurd (x y)
  rest_one v w (end_broken g x) (run_broken {p = q} y) = absurd (row_clash f.key l n at q g.keys y)
  rest_one v w (end_broken g x) (segments_broken {p = q} r y) = absurd (segments_clash f b l s (after_of f.key n at) q g.segments y)
  rest_one v w (end_broken g x) (end_broken g' y) = refl
  rest_one v w (end_broken g x) (more_bytes g' y k) = absurd (x y)
  rest_one v w (more_bytes g x h) (whole g' y k) = absurd (omega arith)
  rest_one v w (more_bytes g x h) (run_broken {p = q} y) = absurd (row_clash f.key l n at q g.keys y)
  rest_one v w (more_bytes g x h) (segments_broken {p = q} r y) = absurd (segments_clash f b l s (after_of f.key n at) q g.segments y)
  rest_one v w (more_bytes g x h) (end_broken g' y) = absurd (y x)
  rest_one v w (more_bytes g x h) (more_bytes g' y k) = refl
