-- The cases of reading an image.
-- Assumes nothing.
use Rattle.std.specs.Prelude.{Result, Ok, Err}
use mathlib.Core.Path.{◌≡◌, refl, sym, ap}
use mathlib.Core.Bool.{true}
use mathlib.Core.List.{List}
use Prim.Native.Nat.{ℕ, ◌≤◌}
use native.Mathlib.Omega.{arith}
use borrow.Author.Tests.{leb-true}
use Rattle.terms.specs.declared.Sizes.{Sizes}
use Rattle.terms.specs.declared.Refusal.{Refusal}
use Rattle.terms.specs.declared.Refusal.TheVariants.{KeyRoom, SegmentRoom}
use Rattle.lists.proofs.Tests.{either}
use Rattle.table.specs.Store.{store_of}
use Rattle.table.specs.Limits.{Limits, Counted, key_room, segment_room}
use Rattle.table.proofs.Limits.{Holds, room_holds}
use Rattle.image_records.specs.Images.{layout_of}
use Rattle.image_records.specs.First.{first}
use Rattle.image_judge.specs.Judging.{judged_of}
use Rattle.image_fill.specs.Filling.{ImageFill}
use Rattle.image_read.specs.Loading.{keys_held, segments_held, roomed_of, after_judged, load_of, keys_by, table_by, buffers_by}
use Rattle.image_read.proofs.Told.{Told, not_both, well_told, told_head}

-- ---- decide

pub roomed_asks : (l : List ℕ) (z : Sizes) → Ok z ≡ judged_of (layout_of first) l → Counted z.e z.b z.n z.s
roomed_asks l z q = (well_told l z (sym q)).counted

-- ---- what an accepted image tells, with the rooms

pub record Taken (l : List ℕ) (z : Sizes) (keys t bs : List ℕ) : Type 0 where
  pub told : Told l z
  pub limits : Limits (store_of z keys t bs)

module _ (l keys t bs : List ℕ) where
  held_keys : (n : ℕ) → keys_held n keys ≡ true → n ≤ key_room keys
  unfolding keys_held
  held_keys n h = leb-true n (key_room keys) h

  held_segments : (b s : ℕ) → segments_held b s t bs ≡ true → s ≤ segment_room b t bs
  unfolding segments_held
  held_segments b s h = leb-true s (segment_room b t bs) h

  room_taken : (z y : Sizes) → Told l z → roomed_of z keys t bs ≡ Ok y → Taken l y keys t bs
  unfolding roomed_of
  room_taken z z' w q =
      either (keys_held z.n keys)
      (λ x. either (segments_held z.b z.s t bs)
      (λ y.
      let p : Ok z ≡ Ok z' = simp (x, y) at q in
      let same : z ≡ z' = cc in
      let h : Holds z.b z.s t bs = room_holds z.b z.s t bs w.counted.b_least (held_segments z.b z.s y) in
      let k : z.n ≤ key_room keys = held_keys z.n x in
      let f : Taken l z keys t bs = record { told = w; limits = omega (arith, h, k, w.counted) } in
      rw same at f)
      (λ y. not_both SegmentRoom z' (simp (x, y) at q)))
      (λ x. not_both KeyRoom z' (simp x at q))

  judged_taken : (w : Result Sizes Refusal) (y : Sizes) → judged_of (layout_of first) l ≡ w → after_judged w keys t bs ≡ Ok y → Taken l y keys t bs
  judged_taken (Ok z) y p q = room_taken z y (well_told l z p) q
  judged_taken (Err r) y p q = not_both r y q

  pub taken : (z : Sizes) → load_of l keys t bs ≡ Ok z → Taken l z keys t bs
  unfolding load_of
  taken z q = judged_taken (judged_of (layout_of first) l) z refl q

-- ---- read_image

pub fill_asks : (l : List ℕ) (z : Sizes) (keys t bs : List ℕ) → Ok z ≡ load_of l keys t bs → ImageFill l z keys t bs
fill_asks l z keys t bs decided =
    let got : Taken l z keys t bs = taken l keys t bs z (sym decided) in
    record {
      told = told_head l z got.told;
      limits = got.limits;
      run = got.told.run;
      last = got.told.end;
      judged = got.told.judged;
    }

-- A refusal leaves every cell as it was. The check finds this alone; the laws stand since docs/DECISIONS.md names them.
module _ (l : List ℕ) {a : Result Sizes Refusal} {r : Refusal} (q : a ≡ Err r) (c : List ℕ) where
  pub keys_left : c ≡ keys_by a l c
  keys_left = ap (λ (a : Result Sizes Refusal). keys_by a l c) (sym q)

  pub table_left : c ≡ table_by a l c
  table_left = ap (λ (a : Result Sizes Refusal). table_by a l c) (sym q)

  pub buffers_left : c ≡ buffers_by a l c
  buffers_left = ap (λ (a : Result Sizes Refusal). buffers_by a l c) (sym q)
