-- The cases of what fits an image.
-- Assumes nothing.
use Rattle.std.specs.Prelude.{Option, Some, None, ◌⊎◌, ◌↔◌, IsTrue, All}
use Rattle.std.proofs.Common.{inl, inr}
use Rattle.std.proofs.lemmas.List.{length-take-le}
use Rattle.std.proofs.lemmas.List.Elements.{All-get_or, All-from_get_or}
use mathlib.Core.Path.{◌≡◌, refl, sym, ap, ◌∙◌}
use mathlib.Core.Bool.{Bool, true, false}
use mathlib.Core.List.{List, [], ◌∷◌}
use Prim.Native.Nat.{ℕ, ◌+◌, ◌-◌, ◌*◌, ◌^◌, ◌≤◌, ◌<◌}
use native.Mathlib.Nat.{mul-le-mul, mul-le-mul_right, lt_of_le_of_lt, add-mul, one-mul}
use native.Mathlib.Omega.{arith}
use lib.Dec.{ltb, lit<}
use lib.ListN.{length, get_or, take, drop, length-drop}
use lib.Seq.{get_or-take, get_or-drop}
use mir.Syntax.{w64}
use mir.Val.{Fits}
use borrow.Author.Tests.{ltb-true, lt-ltb, le-ltb}
use Rattle.terms.specs.declared.Sizes.{Sizes}
use Rattle.terms.specs.Limits.{s_most}
use Rattle.lists.specs.Tests.{both, all}
use Rattle.lists.specs.Over.{Space}
use Rattle.lists.proofs.Tests.{all_each, either, clash, same_test}
use Rattle.scan.specs.Scan.{fails_of, none_of}
use Rattle.scan.proofs.Laws.{fail_here, fail_on, fail_end}
use Rattle.scan.proofs.Meaning.{passes, passing}
use Rattle.table.specs.Store.{store_of}
use Rattle.table.specs.Limits.{Limits}
use Rattle.image_records.specs.Records.{fits_of}
use Rattle.image_records.specs.Fields.{fields_of}
use Rattle.image_records.specs.declared.Fields.{Fields}
use Rattle.image_records.specs.First.{first}
use Rattle.image_records.specs.Stores.{row_in}
use Rattle.image_fits.specs.Fits.{fits_at, cells_fit, entry_tests, entry_fits, run_wrong, or_else, wrong_of}
use Rattle.image_fits.specs.Asks.{EntryRoom, EntriesRoom}

-- ---- keys_fit: the keys of a part of the cells

only : (t : Bool) → t ≡ both t true
only true = refl
only false = refl

cell_is : (cells : List ℕ) (p : ℕ) → ltb (get_or cells p 0) (256 ^ 6) ≡ fits_at first.key.widths cells p
unfolding fits_at fits_of
cell_is cells p = only (ltb (get_or cells p 0) (256 ^ 6))

module _ (cells : List ℕ) (at to : ℕ) {r : Bool} (told : IsTrue r ↔ All (λ k. k < 256 ^ 6) (take (to - at) (drop at cells))) where
  abbrev part : List ℕ
  part = take (to - at) (drop at cells)

  part_length : to ≤ length cells → length part ≡ to - at
  part_length inside = length-take-le (to - at) (drop at cells) (omega (arith, length-drop at cells))

  part_is : (j : ℕ) → j < to - at → get_or part j 0 ≡ get_or cells (at + j) 0
  part_is j l = get_or-take (to - at) (drop at cells) j 0 l ∙ get_or-drop at cells j 0

  pub part_fits : to ≤ length cells → r ≡ cells_fit first.key.widths cells at to
  part_fits inside =
      same_test r (cells_fit first.key.widths cells at to)
      (λ t. passing (fits_at first.key.widths cells) at (to - at)
      (λ q l m.
      let e : at + (q - at) ≡ q = omega arith in
      let k : get_or part (q - at) 0 < 256 ^ 6 = All-get_or (λ k. k < 256 ^ 6) part (q - at) 0 (omega (arith, part_length inside)) (told.0 t) in
      let c : get_or cells q 0 < 256 ^ 6 = rw (part_is (q - at) (omega arith), e) at k in
      sym (cell_is cells q) ∙ lt-ltb (get_or cells q 0) (256 ^ 6) c))
      (λ t. told.1
      (All-from_get_or (λ k. k < 256 ^ 6) part 0
      (λ j l.
      let m : j < to - at = omega (arith, part_length inside) in
      let f : fits_at first.key.widths cells (at + j) ≡ true = passes (fits_at first.key.widths cells) at (to - at) t (at + j) (omega arith) (omega arith) in
      rw (part_is j m) (ltb-true (get_or cells (at + j) 0) (256 ^ 6) (cell_is cells (at + j) ∙ f)))))

-- ---- entry_fits

module _ (b s : ℕ) (t bs : List ℕ) (i : ℕ) (r : EntryRoom b s t bs i) where
  pub row_asks : Space t (5 * i) 5
  row_asks = record { inside = omega (arith, r.below, r.room.rows) }

  slot_small : i * b < 2 ^ 63
  slot_small = let h : i ≤ s_most = omega (arith, r.below, r.room.few) in lt_of_le_of_lt (mul-le-mul h r.room.small) (lit< tt)

  pub slot_fits : Fits w64 (i * b)
  slot_fits = record { fits = omega (arith, slot_small) }

  module _ {h : ℕ} (few : h < b) where
    pub slots_inside : i * b + h ≤ length bs
    slots_inside =
        let last_slot : (i + 1) * b ≤ s * b = mul-le-mul_right b (omega (arith, r.below)) in
        let next_slot : (i + 1) * b ≡ i * b + b = add-mul i 1 b ∙ rw one-mul in
        omega (arith, last_slot, next_slot, r.room.slots)

    pub slots_fit : Fits w64 (i * b + h)
    slots_fit = record { fits = omega (arith, slot_small, r.room.small) }

entry_last : (p q c : Bool) {r : Bool} → p ≡ true → q ≡ true → r ≡ c → r ≡ all (p ∷ (q ∷ (c ∷ [])))
unfolding all
entry_last true true true x y e = e
entry_last true true false x y e = e
entry_last true false c x y e = clash (sym y)
entry_last false q c x y e = clash (sym x)

first_fails : (p q c : Bool) → p ≡ false → false ≡ all (p ∷ (q ∷ (c ∷ [])))
unfolding all
first_fails p q c x = simp x

second_fails : (p q c : Bool) → p ≡ true → q ≡ false → false ≡ all (p ∷ (q ∷ (c ∷ [])))
unfolding all
second_fails p q c x y = simp (x, y)

module _ (b : ℕ) (t bs : List ℕ) (i : ℕ) {f : Fields} (row : fields_of f ≡ row_in t i) {y : Bool} (fits : y ≡ fits_of first.segment.widths (fields_of f)) {h : ℕ} (held : h ≡ f.held) where
  abbrev row_fits : Bool
  row_fits = fits_of first.segment.widths (row_in t i)

  abbrev held_below : Bool
  held_below = ltb (get_or t (5 * i + 4) 0) b

  abbrev slots_fit_all : Bool
  slots_fit_all = cells_fit first.buffered.widths bs (i * b) (i * b + get_or t (5 * i + 4) 0)

  row_told : y ≡ row_fits
  row_told = fits ∙ ap (fits_of first.segment.widths) row

  held_told : h ≡ get_or t (5 * i + 4) 0
  held_told = held ∙ ap (λ (l : List ℕ). get_or l 4 0) row

  pub entry_refused : (y ≡ false) ⊎ ((y ≡ true) × (b ≤ h)) → false ≡ entry_fits b t bs i
  unfolding entry_fits
  entry_refused (inl q) = first_fails row_fits held_below slots_fit_all (sym row_told ∙ q)
  entry_refused (inr q) = second_fails row_fits held_below slots_fit_all (sym row_told ∙ q.0) (ap (λ (k : ℕ). ltb k b) (sym held_told) ∙ le-ltb h b q.1)

  -- the same, where more than B are held: so a test that lets B pass is refused for that alone
  pub entry_over : (y ≡ false) ⊎ ((y ≡ true) × (b < h)) → false ≡ entry_fits b t bs i
  entry_over (inl q) = entry_refused (inl q)
  entry_over (inr q) = let full : b ≤ h = omega (arith, q.1) in entry_refused (inr (q.0, full))

  pub entry_answered : y ≡ true → h < b → {r : Bool} → IsTrue r ↔ All (λ k. k < 256 ^ 6) (take (i * b + h - i * b) (drop (i * b) bs)) → i * b + h ≤ length bs → r ≡ entry_fits b t bs i
  unfolding entry_fits
  entry_answered fit g {r} told inside =
      entry_last row_fits held_below slots_fit_all (sym row_told ∙ fit) (ap (λ (k : ℕ). ltb k b) (sym held_told) ∙ lt-ltb h b g)
      (part_fits bs (i * b) (i * b + h) told inside ∙ ap (λ (k : ℕ). cells_fit first.key.widths bs (i * b) (i * b + k)) held_told)

pub ruleset entry_cases = (row_asks, slot_fits, slots_inside, slots_fit, entry_refused, entry_over, entry_answered)

-- ---- lowest_wrong

module _ (b s : ℕ) (t bs : List ℕ) (i : ℕ) (so : fails_of (entry_fits b t bs) 0 (s - 0) ≡ fails_of (entry_fits b t bs) i (s - i)) where
  pub wrong_here : {r : Bool} → i < s → r ≡ entry_fits b t bs i → r ≡ false → Some i ≡ fails_of (entry_fits b t bs) 0 (s - 0)
  wrong_here h p q = sym (fail_here (entry_fits b t bs) 0 s i so h p q)

  pub wrong_end : s ≤ i → None ≡ fails_of (entry_fits b t bs) 0 (s - 0)
  wrong_end h = sym (fail_end (entry_fits b t bs) 0 s i so h)

pub entry_asks : (b s : ℕ) (t bs : List ℕ) (i : ℕ) → EntriesRoom b s t bs → i < s → EntryRoom b s t bs i
entry_asks b s t bs i r h = record { below = h; room = r }

pub ruleset entries_cases = (wrong_here, wrong_end, fail_on, entry_asks)

-- ---- run_wrong, wrong

module _ (n s : ℕ) (keys : List ℕ) {r : Bool} (told : IsTrue r ↔ All (λ k. k < 256 ^ 6) (take n keys)) (room : Space keys 0 n) where
  run_told_fits : r ≡ cells_fit first.key.widths keys 0 n
  run_told_fits = let e : n - 0 ≡ n = omega arith in part_fits keys 0 n (rw e told) (omega (arith, room.inside))

  pub run_fits : r ≡ true → None ≡ run_wrong n s keys
  unfolding run_wrong
  run_fits q = simp (sym run_told_fits ∙ q)

  pub run_large_key : r ≡ false → Some s ≡ run_wrong n s keys
  unfolding run_wrong
  run_large_key q = simp (sym run_told_fits ∙ q)

pub ruleset run_cases = (run_fits, run_large_key)

module _ (z : Sizes) (keys t bs : List ℕ) (r : Limits (store_of z keys t bs)) where
  pub entries_asks : EntriesRoom z.b z.s t bs
  entries_asks = omega (arith, r)

  pub run_asks : Space keys 0 z.n
  run_asks = omega (arith, r)

module _ (b n s : ℕ) (keys t bs : List ℕ) where
  module _ {w : Option ℕ} (lowest : w ≡ fails_of (entry_fits b t bs) 0 (s - 0)) where
    pub wrong_entry : {i : ℕ} → w ≡ Some i → Some i ≡ wrong_of b n s keys t bs
    unfolding wrong_of
    wrong_entry q = simp (sym lowest ∙ q)

    pub wrong_run : w ≡ None → {f : Option ℕ} → f ≡ run_wrong n s keys → f ≡ wrong_of b n s keys t bs
    unfolding wrong_of
    wrong_run q e = simp (sym lowest ∙ q) e

pub ruleset wrong_cases = (entries_asks, run_asks, wrong_entry, wrong_run)

-- ---- what a store without a wrong place has

abbrev AllFit : ℕ → ℕ → List ℕ → List ℕ → Type 0
AllFit b s t bs = (i : ℕ) → i < s → entry_fits b t bs i ≡ true

entries_told : (b s : ℕ) (t bs : List ℕ) → fails_of (entry_fits b t bs) 0 (s - 0) ≡ None → AllFit b s t bs
entries_told b s t bs q i h = passes (entry_fits b t bs) 0 (s - 0) (ap none_of q) i (omega arith) (omega arith)

no_place : {C : Type 0} (i : ℕ) → Some i ≡ None → C
no_place i e = absurd (let z : ◌≡◌ {A = ℕ} 0 1 = cc in omega arith)

or_nothing : (f g : Option ℕ) → or_else f g ≡ None → (f ≡ None) × (g ≡ None)
or_nothing (Some i) g e = no_place i e
or_nothing None g e = (refl, e)

run_told : (n s : ℕ) (keys : List ℕ) → run_wrong n s keys ≡ None → cells_fit first.key.widths keys 0 n ≡ true
unfolding run_wrong
run_told n s keys e = either (cells_fit first.key.widths keys 0 n) (λ t. t) (λ t. no_place s (simp t at e))

pub record Right (b n s : ℕ) (keys t bs : List ℕ) : Type 0 where
  pub entries : (i : ℕ) → i < s → entry_fits b t bs i ≡ true
  pub run : cells_fit first.key.widths keys 0 n ≡ true

pub right_of : (b n s : ℕ) (keys t bs : List ℕ) → wrong_of b n s keys t bs ≡ None → Right b n s keys t bs
unfolding wrong_of
right_of b n s keys t bs e =
    let p : _ = or_nothing (fails_of (entry_fits b t bs) 0 (s - 0)) (run_wrong n s keys) e in
    record { entries = entries_told b s t bs p.0; run = run_told n s keys p.1 }

pub entry_held : (b : ℕ) (t bs : List ℕ) (i : ℕ) → entry_fits b t bs i ≡ true → get_or t (5 * i + 4) 0 < b
unfolding entry_fits
entry_held b t bs i h = let u : _ = all_each (entry_tests b t bs i) h in ltb-true (get_or t (5 * i + 4) 0) b u.1.0
