-- The image of a store is good exactly where each of its entries and run keys can be written.
-- Assumes nothing.
use mathlib.Core.Path.{◌≡◌, refl, sym, ap}
use mathlib.Core.List.{List, [], ◌∷◌}
use Prim.Native.Nat.{ℕ, zero, suc, ◌+◌, ◌*◌, ◌^◌, ◌≤◌, ◌<◌}
use native.Mathlib.Nat.{add-zero, zero-add, not-suc-le-zero}
use native.Mathlib.Omega.{arith}
use lib.ListN.{length, get_or}
use Rattle.table.specs.Store.{Store}
use Rattle.table.specs.Limits.{Limits}
use Rattle.table.specs.Entries.{entry_of}
use Rattle.image_records.specs.Records.{FitAll}
use Rattle.image_records.specs.Images.{Part, GoodPart, GoodParts, Good}
use Rattle.image_records.specs.First.{first}
use Rattle.image_records.specs.Stores.{singles_in, part_in, parts_in, image_in}
use Rattle.image_laws.specs.Writing.{Writable, Entries, Run}

abbrev Small : List ℕ → ℕ → ℕ → Type 0
Small cells from count = (j : ℕ) → j < count → get_or cells (from + j) 0 < 256 ^ 6

pub singles_length : (cells : List ℕ) (from count : ℕ) → length (singles_in cells from count) ≡ count
unfolding singles_in
singles_length cells from zero = refl
singles_length cells from (suc count) = ap suc (singles_length cells (from + 1) count)

singles_fit : (cells : List ℕ) (from count : ℕ) → Small cells from count → FitAll (6 ∷ []) (singles_in cells from count)
unfolding singles_in
singles_fit cells from zero h = tt
singles_fit cells from (suc count) h =
    let here : get_or cells (from + 0) 0 < 256 ^ 6 = h 0 (omega arith) in
    ((rw add-zero at here, tt), singles_fit cells (from + 1) count (λ j g. let e : from + suc j ≡ from + 1 + j = omega arith in rw e at (h (suc j) (omega arith))))

fit_singles : (cells : List ℕ) (from count : ℕ) → FitAll (6 ∷ []) (singles_in cells from count) → Small cells from count
unfolding singles_in
fit_singles cells from zero h j g = absurd (not-suc-le-zero g)
fit_singles cells from (suc count) h zero g = rw add-zero h.0.0
fit_singles cells from (suc count) h (suc j) g = let e : from + suc j ≡ from + 1 + j = omega arith in rw e (fit_singles cells (from + 1) count h.1 j (omega arith))

module _ (σ : Store) where
  abbrev part : ℕ → Part
  part i = part_in σ.b σ.table σ.buffers i

  part_good : (i : ℕ) → Limits σ → Writable σ i → GoodPart first σ.b (part i)
  unfolding entry_of
  part_good i l w =
      let h : ℕ = get_or σ.table (5 * i + 4) 0 in
      let n : length (singles_in σ.buffers (i * σ.b) (get_or σ.table (5 * i + 4) 0)) ≡ get_or σ.table (5 * i + 4) 0 = singles_length σ.buffers (i * σ.b) (get_or σ.table (5 * i + 4) 0) in
      let held : get_or σ.table (5 * i + 4) 0 < 256 ^ 1 = omega (arith, w.held_below, l.b_limit) in
      record {
        fits = (w.first_fits, (w.base_fits, (w.rise_fits, (w.run_fits, (held, tt)))));
        fit = singles_fit σ.buffers (i * σ.b) (get_or σ.table (5 * i + 4) 0) w.slots_fit;
        counts = sym n;
        few = omega (arith, n, w.held_below);
      }

  good_part : (i : ℕ) → GoodPart first σ.b (part i) → Writable σ i
  unfolding entry_of
  good_part i g =
      let n : length (singles_in σ.buffers (i * σ.b) (get_or σ.table (5 * i + 4) 0)) ≡ get_or σ.table (5 * i + 4) 0 = singles_length σ.buffers (i * σ.b) (get_or σ.table (5 * i + 4) 0) in
      record {
        first_fits = g.fits.0;
        base_fits = g.fits.1.0;
        rise_fits = g.fits.1.1.0;
        run_fits = g.fits.1.1.1.0;
        held_below = omega (arith, n, g.few);
        slots_fit = fit_singles σ.buffers (i * σ.b) (get_or σ.table (5 * i + 4) 0) g.fit;
      }

  parts_good : (i count : ℕ) → ((j : ℕ) → i ≤ j → j < i + count → GoodPart first σ.b (part j)) → GoodParts first σ.b (parts_in σ.b σ.table σ.buffers i count)
  unfolding parts_in
  parts_good i zero w = tt
  parts_good i (suc count) w = (w i (omega arith) (omega arith), parts_good (i + 1) count (λ j g k. w j (omega arith) (omega arith)))

  good_parts : (i count : ℕ) → GoodParts first σ.b (parts_in σ.b σ.table σ.buffers i count) → (j : ℕ) → j < count → GoodPart first σ.b (part (i + j))
  unfolding parts_in
  good_parts i zero g j h = absurd (not-suc-le-zero h)
  good_parts i (suc count) g zero h = rw add-zero g.0
  good_parts i (suc count) g (suc j) h = let e : i + suc j ≡ i + 1 + j = omega arith in rw e (good_parts (i + 1) count g.1 j (omega arith))

  parts_length : (i count : ℕ) → length (parts_in σ.b σ.table σ.buffers i count) ≡ count
  unfolding parts_in
  parts_length i zero = refl
  parts_length i (suc count) = ap suc (parts_length (i + 1) count)

  pub image_good : Limits σ → Entries σ → Run σ → Good first (image_in σ)
  unfolding image_in
  image_good l e r =
      record {
        head_fits = omega (arith, l);
        keys_fit = singles_fit σ.keys 0 σ.n (λ j h. rw zero-add (r j h));
        keys_count = sym (singles_length σ.keys 0 σ.n);
        parts_good = parts_good 0 σ.s (λ j g h. part_good j l (e j (omega arith)));
        parts_count = sym (parts_length 0 σ.s);
      }

  pub good_entries : Good first (image_in σ) → Entries σ
  unfolding image_in
  good_entries g i h = let w : GoodPart first σ.b (part (0 + i)) = good_parts 0 σ.s g.parts_good i h in good_part i (rw zero-add at w)

  pub good_run : Good first (image_in σ) → Run σ
  unfolding image_in
  good_run g p h = let w : get_or σ.keys (0 + p) 0 < 256 ^ 6 = fit_singles σ.keys 0 σ.n g.keys_fit p h in rw zero-add at w
