-- What cells show: the next segment, its entry, and the whole list, which is the only one.
-- Assumes nothing.
use mathlib.Core.Path.{◌≡◌, refl, sym, ap, ◌∙◌}
use mathlib.Core.List.{List, [], ◌∷◌, ◌++◌, append_assoc}
use Prim.Native.Nat.{ℕ, zero, suc, ◌+◌, ◌-◌, ◌*◌}
use native.Mathlib.Omega.{arith}
use lib.ListN.{length, get_or, take, drop, length-append}
use lib.Seq.{drop-drop, drop_at, take_at, get_or-drop}
use borrow.Author.Tests.{lt-ltb, le-ltb}
use Rattle.terms.specs.declared.Entry.{Entry}
use Rattle.table.specs.Store.{Store}
use Rattle.table.specs.Entries.{end_of, entry_of, entry_in}
use Rattle.table.specs.Reads.{stretch_of, reads}
use Rattle.theory_segments.specs.Seg.{Seg, runs_of, reads_of, all_of}
use Rattle.theory_segments.specs.Cuts.{rows}
use Rattle.theory_shown.specs.Shows.{seg_of, segs_from, segments, Shown}

-- the entry of a segment whose run starts at `at`
abbrev pub entry_by : ℕ → Seg → Entry
entry_by at x =
    record {
      first = record { 0 = x.first };
      base = record { 0 = at };
      end = record { 0 = at + length x.keys };
      rise = x.rise;
      run = x.run;
      held = length x.used;
    }

module _ (σ : Store) where
  pub shown_next : (i at : ℕ) (x : Seg) (xs : List Seg) → Shown σ i at (x ∷ xs) → Shown σ (suc i) (at + length x.keys) xs
  shown_next i at x xs w =
      let a : 5 * suc i ≡ 5 * i + 5 = omega arith in
      let c : suc i * σ.b ≡ i * σ.b + σ.b = omega arith in
      record {
        count = omega (arith, w.count);
        total = omega (arith, w.total, length-append x.keys (runs_of xs));
        more = w.more;
        table = rw (a, ← drop-drop 5 (5 * i) σ.table, w.table) refl;
        rest = w.rest;
        keys = rw (← drop-drop (length x.keys) at σ.keys, w.keys, append_assoc x.keys (runs_of xs) w.rest) (drop_at x.keys (runs_of xs ++ w.rest) (length x.keys) refl);
        slots = rw (c, ← drop-drop σ.b (i * σ.b) σ.buffers) w.slots.1;
      }

  pub cell : (i at : ℕ) (x : Seg) (xs : List Seg) (w : Shown σ i at (x ∷ xs)) (c : ℕ) → get_or σ.table (5 * i + c) 0 ≡ get_or (rows at (x ∷ xs) ++ w.more) c 0
  cell i at x xs w c = sym (get_or-drop (5 * i) σ.table c 0) ∙ ap (λ (l : List ℕ). get_or l c 0) w.table

  shown_end : (xs : List Seg) (i at : ℕ) (x : Seg) → Shown σ i at (x ∷ xs) → end_of σ.n σ.s σ.table i ≡ at + length x.keys
  shown_end [] i at x w =
      simp (le-ltb (i + 1) σ.s (omega (arith, w.count))) (omega (arith, w.total, length-append x.keys []))
  shown_end (y ∷ ys) i at x w =
      let e : 5 * (i + 1) + 1 ≡ 5 * i + 6 = omega arith in
      simp (lt-ltb (i + 1) σ.s (omega (arith, w.count))) (ap (λ (m : ℕ). get_or σ.table m 0) e ∙ cell i at x (y ∷ ys) w 6)

  module _ (i at : ℕ) (x : Seg) (xs : List Seg) (w : Shown σ i at (x ∷ xs)) where
    pub shown_entry : entry_in σ i ≡ entry_by at x
    unfolding entry_of
    shown_entry =
        let z : 5 * i + 0 ≡ 5 * i = omega arith in
        let f : get_or σ.table (5 * i) 0 ≡ x.first = rw z at (cell i at x xs w 0) in
        rw (shown_end xs i at x w, f, cell i at x xs w 1, cell i at x xs w 2, cell i at x xs w 3, cell i at x xs w 4) refl

    pub shown_keys : take (length x.keys) (drop at σ.keys) ≡ x.keys
    shown_keys = rw (w.keys, append_assoc x.keys (runs_of xs) w.rest) (take_at x.keys (runs_of xs ++ w.rest) (length x.keys) refl)

    pub shown_segment : seg_of σ i ≡ x
    unfolding seg_of
    shown_segment =
        let e : at + length x.keys - at ≡ length x.keys = omega arith in
        rw (shown_entry, e, shown_keys, w.slots.0) refl

  pub shown_segs : (segs : List Seg) (i at : ℕ) → Shown σ i at segs → segs_from σ i (length segs) ≡ segs
  shown_segs [] i at w = refl
  shown_segs (x ∷ xs) i at w = rw (shown_segment i at x xs w, shown_segs xs (suc i) (at + length x.keys) (shown_next i at x xs w)) refl

  pub shown_segments : (segs : List Seg) → Shown σ 0 0 segs → segments σ ≡ segs
  shown_segments segs w = let c : σ.s ≡ length segs = omega (arith, w.count) in ap (λ (m : ℕ). segs_from σ 0 m) c ∙ shown_segs segs 0 0 w

-- ---- the plain list

pub stretch_reads : (σ : Store) (c i : ℕ) → stretch_of σ i c ≡ reads_of (segs_from σ i c)
unfolding stretch_of seg_of
stretch_reads σ zero i = refl
stretch_reads σ (suc c) i = ap (λ (l : List ℕ). all_of (seg_of σ i) ++ l) (stretch_reads σ c (suc i))

-- what the cells show is what the store reads as
pub shown_reads : (σ : Store) (segs : List Seg) → Shown σ 0 0 segs → reads σ ≡ reads_of segs
shown_reads σ segs w = stretch_reads σ σ.s 0 ∙ ap reads_of (shown_segments σ segs w)
