-- A store that was filled from an image has that image.
-- Assumes nothing.
use mathlib.Core.Path.{◌≡◌, refl, ap, ◌∙◌}
use mathlib.Core.List.{List, [], ◌∷◌}
use mathlib.Core.Logic.{⊎_elim}
use Prim.Native.Nat.{ℕ, suc, ◌+◌, ◌*◌, ◌≤◌, ◌<◌}
use native.Mathlib.Nat.{add-mul, one-mul, add-zero, zero-add}
use native.Mathlib.Omega.{arith}
use lib.ListN.{length, get_or, length-append}
use Rattle.image_records.specs.Records.{Fit, FitAll}
use Rattle.image_records.specs.Images.{Part, Image, GoodParts, Good}
use Rattle.image_records.specs.First.{first}
use Rattle.image_records.specs.Stores.{singles_in, row_in, part_in, parts_in, image_in}
use Rattle.lists.specs.Over.{over, Shows}
use Rattle.table.specs.Store.{store_of}
use Rattle.table.specs.Limits.{Limits}
use Rattle.image_records.specs.Stores.{firsts, rows_of, slots_by, head_sizes, filled_of, SlotsShow, Apart}
use Rattle.lists.proofs.Over.{length_over, over_before, over_after, over_shows, shows_left, shows_right}
use Rattle.image_records.proofs.Records.{fit_length}

-- ---- keys
pub firsts_length : (rs : List (List ℕ)) → length (firsts rs) ≡ length rs
unfolding firsts
firsts_length [] = refl
firsts_length (r ∷ rs) = ap suc (firsts_length rs)

single : (r : List ℕ) → Fit (6 ∷ []) r → get_or r 0 0 ∷ [] ≡ r
single [] h = absurd h
single (x ∷ []) h = refl
single (x ∷ (y ∷ r)) h = absurd h.1

pub singles_back : (cells : List ℕ) (from : ℕ) (rs : List (List ℕ)) → FitAll (6 ∷ []) rs → Shows cells from (firsts rs) → singles_in cells from (length rs) ≡ rs
unfolding singles_in firsts
singles_back cells from [] f h = refl
singles_back cells from (r ∷ rs) f h =
    let here : get_or cells from 0 ≡ get_or r 0 0 = rw add-zero at (h 0 (omega arith)) in
    let next : singles_in cells (from + 1) (length rs) ≡ rs =
    singles_back cells (from + 1) rs f.1 (λ j g. let e : from + 1 + j ≡ from + suc j = omega arith in rw e (h (suc j) (omega arith))) in
    rw (next, here) (ap (λ (x : List ℕ). x ∷ rs) (single r f.0))

-- ---- rows
abbrev Five : List ℕ → Type 0
Five xs = get_or xs 0 0 ∷ (get_or xs 1 0 ∷ (get_or xs 2 0 ∷ (get_or xs 3 0 ∷ (get_or xs 4 0 ∷ [])))) ≡ xs

five : (xs : List ℕ) → length xs ≡ 5 → Five xs
five [] h = absurd (omega arith)
five (a ∷ []) h = absurd (omega arith)
five (a ∷ (b ∷ [])) h = absurd (omega arith)
five (a ∷ (b ∷ (c ∷ []))) h = absurd (omega arith)
five (a ∷ (b ∷ (c ∷ (d ∷ [])))) h = absurd (omega arith)
five (a ∷ (b ∷ (c ∷ (d ∷ (e ∷ []))))) h = refl
five (a ∷ (b ∷ (c ∷ (d ∷ (e ∷ (f ∷ xs)))))) h = absurd (omega arith)

row_back : (t : List ℕ) (i : ℕ) (xs : List ℕ) → length xs ≡ 5 → Shows t (5 * i) xs → row_in t i ≡ xs
row_back t i xs n h =
    let e₀ : get_or t (5 * i) 0 ≡ get_or xs 0 0 = rw add-zero at (h 0 (omega arith)) in
    rw (e₀, h 1 (omega arith), h 2 (omega arith), h 3 (omega arith), h 4 (omega arith)) (five xs n)

-- ---- slots
next_slot : (i b : ℕ) → (i + 1) * b ≡ i * b + b
next_slot i b = add-mul i 1 b ∙ rw one-mul

slots_before : (b : ℕ) (ps : List Part) (i : ℕ) (buffers : List ℕ) (j : ℕ) → j < i * b → get_or (slots_by b ps i buffers) j 0 ≡ get_or buffers j 0
unfolding slots_by
slots_before b [] i buffers j h = refl
slots_before b (p ∷ ps) i buffers j h =
    slots_before b ps (i + 1) (over buffers (i * b) (firsts p.held)) j (omega (arith, next_slot i b)) ∙ over_before buffers (i * b) (firsts p.held) j h

pub slots_show : (b : ℕ) (ps : List Part) (i : ℕ) (buffers : List ℕ) → GoodParts first b ps → (i + length ps) * b ≤ length buffers → SlotsShow b (slots_by b ps i buffers) i ps
unfolding slots_by
slots_show b [] i buffers g h = tt
slots_show b (p ∷ ps) i buffers g h =
    let m : length (firsts p.held) ≡ length p.held = firsts_length p.held in
    let e : i + suc (length ps) ≡ i + 1 + length ps = omega arith in
    let h' : (i + 1 + length ps) * b ≤ length buffers = rw e at h in
    let more : (i + 1 + length ps) * b ≡ (i + 1) * b + length ps * b = add-mul (i + 1) (length ps) b in
    let n : length (over buffers (i * b) (firsts p.held)) ≡ length buffers = length_over buffers (i * b) (firsts p.held) in
    let few : length p.held < b = g.0.few in
    let room : i * b + length (firsts p.held) ≤ length buffers = omega (arith, next_slot i b, m, more, h', few) in (
      (λ j k. slots_before b ps (i + 1) (over buffers (i * b) (firsts p.held)) (i * b + j) (omega (arith, next_slot i b, m, few, k)) ∙
          over_shows buffers (i * b) (firsts p.held) room j k),
      slots_show b ps (i + 1) (over buffers (i * b) (firsts p.held)) g.1 (rw n h'),
    )

pub slots_length : (b : ℕ) (ps : List Part) (i : ℕ) (buffers : List ℕ) → length (slots_by b ps i buffers) ≡ length buffers
unfolding slots_by
slots_length b [] i buffers = refl
slots_length b (p ∷ ps) i buffers = slots_length b ps (i + 1) (over buffers (i * b) (firsts p.held)) ∙ length_over buffers (i * b) (firsts p.held)

-- a slot that no part uses keeps its contents
pub slots_kept : (b q : ℕ) (ps : List Part) (i : ℕ) (buffers : List ℕ) → Apart b q i ps → get_or (slots_by b ps i buffers) q 0 ≡ get_or buffers q 0
unfolding slots_by
slots_kept b q [] i buffers h = refl
slots_kept b q (p ∷ ps) i buffers h =
    slots_kept b q ps (i + 1) (over buffers (i * b) (firsts p.held)) h.1 ∙
    ⊎_elim (λ l. over_before buffers (i * b) (firsts p.held) q l) (λ g. over_after buffers (i * b) (firsts p.held) q (omega (arith, firsts_length p.held))) h.0

-- ---- segments
pub parts_back : (b : ℕ) (t buffers : List ℕ) (i : ℕ) (ps : List Part) → GoodParts first b ps → Shows t (5 * i) (rows_of ps) → SlotsShow b buffers i ps
    → parts_in b t buffers i (length ps) ≡ ps
unfolding parts_in rows_of
parts_back b t buffers i [] g h k = refl
parts_back b t buffers i (p ∷ ps) g h k =
    let n : length p.numbers ≡ 5 = fit_length first.segment.widths p.numbers g.0.fits in
    let row : row_in t i ≡ p.numbers = row_back t i p.numbers n (shows_left t (5 * i) p.numbers (rows_of ps) h) in
    let held : get_or t (5 * i + 4) 0 ≡ length p.held = ap (λ (xs : List ℕ). get_or xs 4 0) row ∙ g.0.counts in
    let keys : singles_in buffers (i * b) (length p.held) ≡ p.held = singles_back buffers (i * b) p.held g.0.fit k.0 in
    let at : 5 * i + length p.numbers ≡ 5 * (i + 1) = omega (arith, n) in
    let next : parts_in b t buffers (i + 1) (length ps) ≡ ps =
    parts_back b t buffers (i + 1) ps g.1 (rw at at (shows_right t (5 * i) p.numbers (rows_of ps) h)) k.1 in
    let here : part_in b t buffers i ≡ p =
    ap (λ (c : ℕ). (let q : Part = record { numbers = row_in t i; held = singles_in buffers (i * b) c } in q)) held ∙
    ap (λ (xs : List ℕ). (let q : Part = record { numbers = xs; held = singles_in buffers (i * b) (length p.held) } in q)) row ∙
    ap (λ (rs : List (List ℕ)). (let q : Part = record { numbers = p.numbers; held = rs } in q)) keys in
    ap (λ (q : Part). q ∷ parts_in b t buffers (i + 1) (length ps)) here ∙ ap (λ (qs : List Part). p ∷ qs) next

-- ---- the whole
pub rows_length : (b : ℕ) (ps : List Part) → GoodParts first b ps → length (rows_of ps) ≡ 5 * length ps
unfolding rows_of
rows_length b [] g = refl
rows_length b (p ∷ ps) g =
    let n : length p.numbers ≡ 5 = fit_length first.segment.widths p.numbers g.0.fits in
    let m : length (rows_of ps) ≡ 5 * length ps = rows_length b ps g.1 in
    length-append p.numbers (rows_of ps) ∙ omega (arith, n, m)

four : (xs : List ℕ) → length xs ≡ 4 → get_or xs 0 0 ∷ (get_or xs 1 0 ∷ (get_or xs 2 0 ∷ (get_or xs 3 0 ∷ []))) ≡ xs
four [] h = absurd (omega arith)
four (a ∷ []) h = absurd (omega arith)
four (a ∷ (b ∷ [])) h = absurd (omega arith)
four (a ∷ (b ∷ (c ∷ []))) h = absurd (omega arith)
four (a ∷ (b ∷ (c ∷ (d ∷ [])))) h = refl
four (a ∷ (b ∷ (c ∷ (d ∷ (e ∷ xs))))) h = absurd (omega arith)

-- a store that is filled from an image, in slices with room for what its head says, has that image
pub filled_image : (v : Image) (keys table buffers : List ℕ) → Good first v → Limits (store_of (head_sizes v) keys table buffers)
    → image_in (filled_of v keys table buffers) ≡ v
unfolding image_in
filled_image v keys table buffers g r =
    let b : ℕ = get_or v.head 1 0 in
    let ps : List Part = v.parts in
    let m : length (firsts v.keys) ≡ length v.keys = firsts_length v.keys in
    let k : singles_in (over keys 0 (firsts v.keys)) 0 (length v.keys) ≡ v.keys =
    singles_back (over keys 0 (firsts v.keys)) 0 v.keys g.keys_fit (over_shows keys 0 (firsts v.keys) (omega (arith, m, g.keys_count, r.keys_hold))) in
    let rows : Shows (over table 0 (rows_of ps)) 0 (rows_of ps) =
    over_shows table 0 (rows_of ps) (omega (arith, rows_length b ps g.parts_good, g.parts_count, r.table_holds)) in
    let room : (0 + length ps) * b ≤ length buffers = rw (zero-add, ← g.parts_count) r.buffers_hold in
    let p : parts_in b (over table 0 (rows_of ps)) (slots_by b ps 0 buffers) 0 (length ps) ≡ ps =
    parts_back b (over table 0 (rows_of ps)) (slots_by b ps 0 buffers) 0 ps g.parts_good rows (slots_show b ps 0 buffers g.parts_good room) in
    let h : _ = four v.head (fit_length first.head.widths v.head g.head_fits) in
    simp (g.keys_count, g.parts_count, k, p)
    (ap (λ (xs : List ℕ). (let q : Image = record { head = xs; keys = v.keys; parts = ps } in q)) (simp (g.keys_count, g.parts_count) at h))
