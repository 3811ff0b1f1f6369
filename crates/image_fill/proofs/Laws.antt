-- The cases of the filling functions.
-- Assumes nothing.
use Rattle.std.specs.Prelude.{Ok}
use mathlib.Core.Path.{◌≡◌, refl, sym, ap, ◌∙◌, subst}
use mathlib.Core.List.{List, [], ◌∷◌, ◌++◌}
use Prim.Native.Nat.{ℕ, zero, suc, ◌+◌, ◌-◌, ◌*◌, ◌≤◌, ◌<◌}
use native.Mathlib.Nat.{mul-le-mul, mul-le-mul_right, lt_of_le_of_lt, add-mul, one-mul}
use native.Mathlib.Numerals.{add-one}
use native.Mathlib.Omega.{arith}
use lib.Dec.{lit<}
use lib.ListN.{length, get_or, set, length-append}
use mir.Syntax.{w64}
use mir.Val.{Fits}
use Rattle.terms.specs.declared.Sizes.{Sizes}
use Rattle.terms.specs.Limits.{b_most, s_most}
use Rattle.lists.specs.Over.{over, Writing}
use Rattle.lists.proofs.Over.{set_over, writing_start, writing_step, writing_end, length_over}
use Rattle.image_little.specs.Little.{get_at}
use Rattle.image_records.specs.Records.{shape, many_at, fields_at, record_at, kind_of, after_of, total}
use Rattle.image_records.specs.Images.{layout_of, held_at, part_of, parts_of, part_at, after_part, parts_at, head_at, image_at}
use Rattle.image_records.specs.First.{first}
use Rattle.image_records.specs.Stores.{firsts, rows_of, slots_by}
use Rattle.image_records.proofs.Records.{many_length}
use Rattle.image_records.proofs.Images.{then_past, part_after}
use Rattle.image_records.proofs.Filled.{firsts_length}
use Rattle.image_records.proofs.First.{first_proper}
use Rattle.image_records.proofs.Inside.{part_few, part_inside}
use Rattle.image_fill.specs.Filling.{KeysFill, PieceFill, PiecesFill, Filling, ImageFill}

-- ---- the records, as the code steps along them

-- the keys of `count` records
abbrev keys_at : List ℕ → ℕ → ℕ → List ℕ
keys_at l count at = firsts (many_at (6 ∷ []) l count at)

-- the place after them, whatever their kind
pub after_is : (kind count at : ℕ) → after_of (kind_of (shape kind (6 ∷ []))) count at ≡ at + 7 * count
unfolding after_of total
after_is kind zero at = omega arith
after_is kind (suc count) at = after_is kind count (at + 7) ∙ omega arith

keys_length : (l : List ℕ) (count at : ℕ) → length (keys_at l count at) ≡ count
keys_length l count at = firsts_length (many_at (6 ∷ []) l count at) ∙ many_length l (6 ∷ []) count at

keys_suc : (l : List ℕ) (count p : ℕ) → keys_at l (suc count) p ≡ (get_at l (p + 1) 6 ∷ []) ++ keys_at l count (p + 7)
unfolding firsts many_at fields_at total
keys_suc l count p = rw add-one

keys_more : (l : List ℕ) (count at k : ℕ) → k < count
    → keys_at l (count - k) (at + 7 * k) ≡ (get_at l (at + 7 * k + 1) 6 ∷ []) ++ keys_at l (count - (k + 1)) (at + 7 * (k + 1))
keys_more l count at k h =
    let e : count - k ≡ suc (count - (k + 1)) = omega arith in
    let f : at + 7 * k + 7 ≡ at + 7 * (k + 1) = omega arith in
    ap (λ (m : ℕ). keys_at l m (at + 7 * k)) e ∙ keys_suc l (count - (k + 1)) (at + 7 * k)
    ∙ ap (λ (p : ℕ). (get_at l (at + 7 * k + 1) 6 ∷ []) ++ keys_at l (count - (k + 1)) p) f

keys_none : (l : List ℕ) (left p : ℕ) → left ≡ 0 → keys_at l left p ≡ []
unfolding firsts many_at
keys_none l left p e = rw e

-- a segment: its numbers, the place after it, its keys
module _ (l : List ℕ) (at : ℕ) where
  pub row_is : record_at first.segment l at ≡
      get_at l (at + 1) 6 ∷ (get_at l (at + 7) 2 ∷ (get_at l (at + 9) 2 ∷ (get_at l (at + 11) 6 ∷ (get_at l (at + 17) 1 ∷ []))))
  unfolding fields_at
  row_is =
      let e₅ : suc at + 6 + 2 + 2 + 6 ≡ at + 17 = omega arith in
      let e₄ : suc at + 6 + 2 + 2 ≡ at + 11 = omega arith in
      let e₃ : suc at + 6 + 2 ≡ at + 9 = omega arith in
      let e₂ : suc at + 6 ≡ at + 7 = omega arith in
      let e₁ : suc at ≡ at + 1 = omega arith in
      rw (e₅, e₄, e₃, e₂, e₁)

  pub next_is : after_part first l at ≡ at + 18 + 7 * held_at (layout_of first) l at
  unfolding total
  next_is = after_is 4 (held_at (layout_of first) l at) (at + 18)

  pub slots_is : firsts (part_at first l at).held ≡ keys_at l (held_at (layout_of first) l at) (at + 18)
  unfolding total
  slots_is = refl

-- ---- fill_keys

-- the loop: the keys of k records are put
abbrev pub Keying : List ℕ → ℕ → List ℕ → ℕ → ℕ → List ℕ → ℕ → Type 0
Keying l at c₀ to count c k = Writing c₀ to (keys_at l count at) c (to + k) (keys_at l (count - k) (at + 7 * k))

module _ (l : List ℕ) (at : ℕ) (c₀ : List ℕ) (to count : ℕ) where
  pub fill_start : KeysFill l at c₀ to count → Keying l at c₀ to count c₀ 0
  fill_start r =
      let e : to + 0 ≡ to = omega arith in
      let f : at + 7 * 0 ≡ at = omega arith in
      let g : count - 0 ≡ count = omega arith in
      rw (e, f, g) (writing_start c₀ to (keys_at l count at) (omega (arith, keys_length l count at, r.room)))

  module _ (c : List ℕ) (k : ℕ) (w : Keying l at c₀ to count c k) where
    pub fill_turn : k < count → {x : ℕ} → x ≡ get_at l (at + 7 * k + 1) 6 → Keying l at c₀ to count (set c (to + k) x) (k + 1)
    fill_turn h {x} e =
        writing_step c₀ to (keys_at l count at) c (to + k) (get_at l (at + 7 * k + 1) 6 ∷ []) (keys_at l (count - (k + 1)) (at + 7 * (k + 1)))
        (rw (keys_more l count at k h) at w) (set c (to + k) x) (set_over c (to + k) x ∙ ap (λ (y : ℕ). over c (to + k) (y ∷ [])) e) (to + (k + 1)) (omega arith)

    pub fill_write : k < count → to + k < length c
    fill_write h = omega (arith, w.same, w.room, keys_length l (count - k) (at + 7 * k))

  pub fill_end : (c : List ℕ) → Keying l at c₀ to count c count → c ≡ over c₀ to (keys_at l count at)
  fill_end c w = writing_end c₀ to (keys_at l count at) c (to + count) (rw (keys_none l (count - count) (at + 7 * count) (omega arith)) at w)

pub ruleset fill_cases = (fill_end, fill_write)

-- ---- fill_piece
pub slots_fit : (i b : ℕ) → i < s_most → b ≤ b_most → Fits w64 (i * b)
slots_fit i b h g = let k : i ≤ s_most = omega arith in record { fits = lt_of_le_of_lt (mul-le-mul k g) (lit< tt) }

module _ (l : List ℕ) (at b : ℕ) (t buffers : List ℕ) (i : ℕ) where
  module _ {h : ℕ} (held : h ≡ held_at (layout_of first) l at) where
    pub keys_asks : PieceFill l at b t buffers i → KeysFill l (at + 18) buffers (i * b) h
    keys_asks r = rw held (record { records = rw (next_is l at) at r.inside; room = r.slots })

pub ruleset piece_cases = (slots_fit, next_is, slots_is, keys_asks)

-- ---- fill_pieces
row_length : (l : List ℕ) (at : ℕ) → length (record_at first.segment l at) ≡ 5
unfolding fields_at
row_length l at = refl

rows_length : (l : List ℕ) (s at : ℕ) → length (rows_of (parts_at first l s at)) ≡ 5 * s
unfolding rows_of parts_at
rows_length l zero at = refl
rows_length l (suc s) at =
    length-append (record_at first.segment l at) (rows_of (parts_at first l s (after_part first l at))) ∙ omega (arith, row_length l at, rows_length l s (after_part first l at))

-- the next segment, and what is left after it
module _ (l : List ℕ) (b p : ℕ) where
  rows_none : rows_of (parts_at first l 0 p) ≡ []
  unfolding rows_of parts_at
  rows_none = refl

  rows_suc : (s : ℕ) → rows_of (parts_at first l (suc s) p) ≡ record_at first.segment l p ++ rows_of (parts_at first l s (after_part first l p))
  unfolding rows_of parts_at
  rows_suc s = refl

  slots_none : (i : ℕ) (bs : List ℕ) → slots_by b (parts_at first l 0 p) i bs ≡ bs
  unfolding slots_by parts_at
  slots_none i bs = refl

  slots_suc : (s i : ℕ) (bs : List ℕ)
      → slots_by b (parts_at first l (suc s) p) i bs ≡ slots_by b (parts_at first l s (after_part first l p)) (i + 1) (over bs (i * b) (firsts (part_at first l p).held))
  unfolding slots_by parts_at
  slots_suc s i bs = refl

  -- what the judging pass found of it
  record Stood (s last : ℕ) : Type 0 where
    pub inside : after_part first l p ≤ length l
    pub few : held_at (layout_of first) l p < b
    pub rest : parts_of (layout_of first) b l s (after_part first l p) ≡ Ok last

  stood : (s last : ℕ) → parts_of (layout_of first) b l (suc s) p ≡ Ok last → Stood s last
  unfolding parts_of
  stood s last e =
      then_past (part_of (layout_of first) b l p) (λ m. parts_of (layout_of first) b l s m) last e
      (λ m here next.
      let a : m ≡ after_part first l p = part_after first first_proper l b p m here in
      record { inside = rw a at (part_inside (layout_of first) b l p m here); few = part_few (layout_of first) b l p m here; rest = rw a at next })

module _ (l : List ℕ) (at b : ℕ) (t₀ bs₀ : List ℕ) (s : ℕ) where
  abbrev rows : List ℕ
  rows = rows_of (parts_at first l s at)

  pub filling_start : PiecesFill l at b t₀ bs₀ s → Filling l at b t₀ bs₀ s t₀ bs₀ at 0 (s - 0)
  filling_start r =
      let e : s - 0 ≡ s = omega arith in
      rw e
      (record {
        rows = writing_start t₀ 0 rows (omega (arith, rows_length l s at, r.rows));
        slots = refl;
        same = refl;
        counts = omega arith;
        last = r.last;
        judged = r.judged;
      })

  module _ (t bs : List ℕ) (p i : ℕ) (w : Filling l at b t₀ bs₀ s t bs p i (s - i)) where
    module _ (h : i < s) where
      one : s - i ≡ suc (s - (i + 1))
      one = omega arith

      here : Stood l b p (s - (i + 1)) w.last
      here = stood l b p (s - (i + 1)) w.last (subst (λ (k : ℕ). parts_of (layout_of first) b l k p ≡ Ok w.last) one w.judged)

      pub piece_asks : PiecesFill l at b t₀ bs₀ s → PieceFill l p b t bs i
      piece_asks r =
          let c : i + 1 ≤ s = omega arith in
          let m : (i + 1) * b ≤ s * b = mul-le-mul_right b c in
          let n : (i + 1) * b ≡ i * b + b = add-mul i 1 b ∙ rw one-mul in
          record {
            stands = omega (arith, next_is l p, here.inside);
            inside = here.inside;
            row = omega (arith, w.rows.same, r.rows);
            few = omega (arith, r.few);
            small = r.small;
            slots = omega (arith, here.few, w.same, r.slots);
          }

      pub filling_turn : {t' bs' : List ℕ} {q : ℕ} → q ≡ after_part first l p → t' ≡ over t (5 * i) (record_at first.segment l p)
          → bs' ≡ over bs (i * b) (firsts (part_at first l p).held) → Filling l at b t₀ bs₀ s t' bs' q (i + 1) (s - (i + 1))
      filling_turn {t'} {bs'} {q} e f g =
          let row : List ℕ = record_at first.segment l p in
          let more : List ℕ = rows_of (parts_at first l (s - (i + 1)) (after_part first l p)) in
          let now : Writing t₀ 0 rows t (5 * i) (row ++ more) =
          subst (λ (x : List ℕ). Writing t₀ 0 rows t (5 * i) x) (ap (λ (k : ℕ). rows_of (parts_at first l k p)) one ∙ rows_suc l b p (s - (i + 1))) w.rows in
          rw e
          (record {
            rows = writing_step t₀ 0 rows t (5 * i) row more now t' f (5 * (i + 1)) (omega (arith, row_length l p));
            slots = rw g (sym (slots_suc l b p (s - (i + 1)) i bs) ∙ ap (λ (k : ℕ). slots_by b (parts_at first l k p) i bs) (sym one) ∙ w.slots);
            same = ap length g ∙ length_over bs (i * b) (firsts (part_at first l p).held) ∙ w.same;
            counts = omega arith;
            last = w.last;
            judged = here.rest;
          })

    module _ (h : s ≤ i) where
      none : s - i ≡ 0
      none = omega arith

      pub filling_rows : t ≡ over t₀ 0 rows
      filling_rows =
          writing_end t₀ 0 rows t (5 * i)
          (subst (λ (x : List ℕ). Writing t₀ 0 rows t (5 * i) x) (ap (λ (k : ℕ). rows_of (parts_at first l k p)) none ∙ rows_none l b p) w.rows)

      pub filling_slots : bs ≡ slots_by b (parts_at first l s at) 0 bs₀
      filling_slots = sym (slots_none l b p i bs) ∙ ap (λ (k : ℕ). slots_by b (parts_at first l k p) i bs) (sym none) ∙ w.slots

-- ---- fill
module _ (l : List ℕ) (z : Sizes) (keys t bs : List ℕ) (r : ImageFill l z keys t bs) where
  n_told : z.n ≡ get_or (head_at first l) 2 0
  unfolding image_at
  n_told = ap (λ (w : Sizes). w.n) r.told

  s_told : z.s ≡ get_or (head_at first l) 3 0
  unfolding image_at
  s_told = ap (λ (w : Sizes). w.s) r.told

  pub run_asks : KeysFill l 9 keys 0 z.n
  run_asks = record { records = r.run; room = omega (arith, r.limits) }

  pub run_filled : {c : List ℕ} → c ≡ over keys 0 (keys_at l z.n 9) → c ≡ over keys 0 (firsts (image_at first l).keys)
  unfolding image_at total
  run_filled g = g ∙ ap (λ (k : ℕ). over keys 0 (keys_at l k 9)) n_told

  module _ {p : ℕ} (place : p ≡ 9 + 7 * z.n) where
    pub pieces_asks : PiecesFill l p z.b t bs z.s
    pieces_asks =
        rw place
        (record {
          last = r.last;
          judged = r.judged;
          rows = r.limits.table_holds;
          few = r.limits.s_limit;
          small = r.limits.b_limit;
          slots = r.limits.buffers_hold;
        })

    parts_is : parts_at first l z.s p ≡ (image_at first l).parts
    unfolding image_at total
    parts_is = rw (place ∙ sym (after_is 2 z.n 9), n_told, s_told)

    pub table_filled : {c : List ℕ} → c ≡ over t 0 (rows_of (parts_at first l z.s p)) → c ≡ over t 0 (rows_of (image_at first l).parts)
    table_filled g = g ∙ rw parts_is

    pub slots_filled : {c : List ℕ} → c ≡ slots_by z.b (parts_at first l z.s p) 0 bs → c ≡ slots_by z.b (image_at first l).parts 0 bs
    slots_filled g = g ∙ rw parts_is

pub ruleset image_cases = (run_asks, pieces_asks)
