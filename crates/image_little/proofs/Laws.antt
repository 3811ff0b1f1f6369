-- The cases of `fits`, `put` and `get`.
-- Assumes nothing.
use mathlib.Core.Path.{◌≡◌, refl, sym, ap, ◌∙◌, subst}
use mathlib.Core.List.{List, [], ◌∷◌, ◌++◌}
use Prim.Native.Nat.{ℕ, suc, ◌+◌, ◌-◌, ◌*◌, ◌/◌, ◌%◌, ◌^◌, ◌≤◌, ◌<◌}
use native.Mathlib.Nat.{add-zero, pow-suc, lt_of_lt_of_le, pow-le-pow_right, one-le-pow}
use native.Mathlib.Omega.{arith}
use lib.ListN.{get_or, set}
use lib.Dec.{lit<, ltb, eqb}
use borrow.Author.Tests.{lt-ltb, eqb-true, ltb-true, eq-eqb}
use Rattle.lists.specs.Over.{over, Space, Writing}
use Rattle.lists.proofs.Tests.{same_test}
use Rattle.lists.proofs.Over.{set_over, writing_start, writing_step, writing_end}
use mir.Syntax.{w8, w64}
use mir.Val.{Fits}
use Rattle.image_little.specs.Little.{number_bytes, get_at, Bytes, Read}
use Rattle.image_little.proofs.Round.{number_length}

-- ---- fits: a number fits in w bytes exactly where what is left after one division fits in one less

module _ (x w v i : ℕ) (so : ltb v (256 ^ (w - i)) ≡ ltb x (256 ^ w)) where
  pub fits_turn : i < w → ltb (v / 256) (256 ^ (w - (i + 1))) ≡ ltb x (256 ^ w)
  fits_turn h =
      let e : w - i ≡ suc (w - (i + 1)) = omega arith in
      let p : 256 ^ (w - i) ≡ 256 ^ (w - (i + 1)) * 256 = ap (λ (k : ℕ). 256 ^ k) e ∙ pow-suc 256 (w - (i + 1)) in
      same_test (ltb (v / 256) (256 ^ (w - (i + 1)))) (ltb v (256 ^ (w - i)))
      (λ t. lt-ltb v (256 ^ (w - i)) (omega (arith, p, ltb-true (v / 256) (256 ^ (w - (i + 1))) t)))
      (λ t. lt-ltb (v / 256) (256 ^ (w - (i + 1))) (omega (arith, p, ltb-true v (256 ^ (w - i)) t))) ∙ so

  pub fits_end : w ≤ i → eqb v 0 ≡ ltb x (256 ^ w)
  fits_end h =
      let e : w - i ≡ 0 = omega arith in
      let p : 256 ^ (w - i) ≡ 1 = ap (λ (k : ℕ). 256 ^ k) e in
      same_test (eqb v 0) (ltb v (256 ^ (w - i))) (λ t. lt-ltb v (256 ^ (w - i)) (omega (arith, p, eqb-true v 0 t)))
      (λ t. eq-eqb v 0 (omega (arith, p, ltb-true v (256 ^ (w - i)) t))) ∙ so

pub ruleset fits_cases = (fits_turn, fits_end)

-- ---- put

number_none : (x : ℕ) → number_bytes 0 x ≡ []
unfolding number_bytes
number_none x = refl

number_more : (w i v : ℕ) → i < w → number_bytes (w - i) v ≡ (v % 256 ∷ []) ++ number_bytes (w - (i + 1)) (v / 256)
unfolding number_bytes
number_more w i v h = let e : w - i ≡ suc (w - (i + 1)) = omega arith in ap (λ (k : ℕ). number_bytes k v) e

module _ (l₀ : List ℕ) (at w x : ℕ) where
  pub put_start : Space l₀ at w → Writing l₀ at (number_bytes w x) l₀ (at + 0) (number_bytes (w - 0) x)
  put_start r =
      let e : w - 0 ≡ w = omega arith in
      rw (e, add-zero) (writing_start l₀ at (number_bytes w x) (omega (arith, number_length w x, r.inside)))

  module _ (l : List ℕ) (i v : ℕ) (so : Writing l₀ at (number_bytes w x) l (at + i) (number_bytes (w - i) v)) where
    pub put_turn : i < w → Writing l₀ at (number_bytes w x) (set l (at + i) (v % 256)) (at + (i + 1)) (number_bytes (w - (i + 1)) (v / 256))
    put_turn h =
        writing_step l₀ at (number_bytes w x) l (at + i) (v % 256 ∷ []) (number_bytes (w - (i + 1)) (v / 256)) (rw (number_more w i v h) at so)
        (set l (at + i) (v % 256)) (set_over l (at + i) (v % 256)) (at + (i + 1)) (omega arith)

    pub put_end : w ≤ i → l ≡ over l₀ at (number_bytes w x)
    put_end h =
        let e : w - i ≡ 0 = omega arith in
        writing_end l₀ at (number_bytes w x) l (at + i) (rw (number_none v) at (rw e at so))

pub ruleset put_cases = (put_start, put_turn, put_end)

-- ---- get: it goes down from w, and has the number of the bytes from `at + left` on

pub record Got (l : List ℕ) (at w left v : ℕ) : Type 0 where
  pub few : left ≤ w
  pub is : v ≡ get_at l (at + left) (w - left)
  pub small : v < 256 ^ (w - left)

get_none : (l : List ℕ) (at : ℕ) → get_at l at 0 ≡ 0
unfolding get_at
get_none l at = refl

get_suc : (l : List ℕ) (at w : ℕ) → get_at l at (suc w) ≡ get_or l at 0 + 256 * get_at l (at + 1) w
unfolding get_at
get_suc l at w = refl

pub get_start : (l : List ℕ) (at w : ℕ) → Got l at w w 0
get_start l at w =
    let e : 0 ≡ w - w = omega arith in
    record { few = omega arith; is = sym (get_none l (at + w)) ∙ ap (get_at l (at + w)) e; small = one-le-pow (w - w) 256 (lit< tt) }

module _ (l : List ℕ) (at w left v : ℕ) (so : Got l at w left v) where
  bound : w ≤ 8 → 0 < left → v < 2 ^ 56
  bound few pos = let h : w - left ≤ 7 = omega arith in lt_of_lt_of_le so.small (pow-le-pow_right (lit< tt) h)

  pub get_product : Read l at w → 0 < left → Fits w64 (v * 256)
  get_product r pos = let h : v < 2 ^ 56 = bound r.few pos in record { fits = omega arith }

  pub get_sum : Read l at w → 0 < left → Bytes l → {b : ℕ} → b ≡ get_or l (at + (left - 1)) 0 → Fits w64 (v * 256 + b)
  get_sum r pos bytes g = let h : v < 2 ^ 56 = bound r.few pos in record { fits = omega (arith, bytes (at + (left - 1))) }

  pub get_turn : 0 < left → Bytes l → {b : ℕ} → b ≡ get_or l (at + (left - 1)) 0 → Got l at w (left - 1) (v * 256 + b)
  get_turn pos bytes {b} g =
      let e : w - (left - 1) ≡ suc (w - left) = omega (arith, so.few) in
      let f : at + (left - 1) + 1 ≡ at + left = omega arith in
      let s : get_at l (at + (left - 1)) (suc (w - left)) ≡ get_or l (at + (left - 1)) 0 + 256 * get_at l (at + left) (w - left) =
      get_suc l (at + (left - 1)) (w - left) ∙ ap (λ (q : ℕ). get_or l (at + (left - 1)) 0 + 256 * get_at l q (w - left)) f in
      let t : v * 256 + b ≡ get_at l (at + (left - 1)) (suc (w - left)) = omega (arith, so.is, g) in
      let p : 256 ^ suc (w - left) ≡ 256 ^ (w - left) * 256 = pow-suc 256 (w - left) in
      record {
        few = omega (arith, so.few);
        is = t ∙ ap (get_at l (at + (left - 1))) (sym e);
        small = subst (λ (k : ℕ). v * 256 + b < 256 ^ k) (sym e) (omega (arith, p, so.small, bytes (at + (left - 1))));
      }

  pub get_end : left ≤ 0 → v ≡ get_at l at w
  get_end h =
      let f : at + left ≡ at = omega arith in
      let g : w - left ≡ w = omega arith in
      so.is ∙ ap (λ (q : ℕ). get_at l q (w - left)) f ∙ ap (get_at l at) g

-- each byte is one
pub bytes_are : (l : List ℕ) → ((i : ℕ) → Fits w8 (get_or l i 0)) → Bytes l
bytes_are l h i = (h i).fits

pub ruleset get_cases = (bytes_are, get_start, get_product, get_sum, get_turn, get_end)
