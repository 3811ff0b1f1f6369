-- The digits of a number: how many, and written from the last one down.
-- Assumes nothing.
use mathlib.Core.Path.{◌≡◌, refl, sym, ap, ◌∙◌}
use mathlib.Core.List.{List, [], ◌∷◌}
use Prim.Native.Nat.{ℕ, zero, suc, ◌+◌, ◌-◌, ◌*◌, ◌/◌, ◌%◌, ◌^◌, ◌≤◌, ◌<◌}
use native.Mathlib.Nat.{pow-suc, one-le-pow}
use native.Mathlib.Omega.{arith}
use mir.Syntax.{w64}
use mir.Val.{Fits}
use lib.Dec.{leb}
use lib.ListN.{length, set, length-append, length-set}
use borrow.Author.Tests.{le-leb, lt-leb}
use Rattle.lists.specs.Over.{over}
use Rattle.lists.proofs.Tests.{either}
use Rattle.lists.proofs.Over.{over_append}
use Rattle.text.specs.Decimal.{width_from, width_of, digits_of, decimal_of}

pub width_most : (more x : ℕ) → width_from more x ≤ suc more
unfolding width_from
width_most zero x = omega arith
width_most (suc more) x = either (leb x 9) (λ t. simp t (omega arith)) (λ t. simp t (omega (arith, width_most more (x / 10))))

pub length_digits : (w x : ℕ) → length (digits_of w x) ≡ w
unfolding digits_of
length_digits zero x = refl
length_digits (suc w) x = simp length-append (omega (arith, length_digits w (x / 10)))

pub decimal_length : (x : ℕ) → length (decimal_of x) ≡ width_of x
unfolding decimal_of
decimal_length x = length_digits (width_of x) x

pub decimal_most : (x : ℕ) → length (decimal_of x) ≤ 20
unfolding width_of
decimal_most x = omega (arith, decimal_length x, width_most 19 x)

-- ---- how many digits, by the greatest power of ten that is not above the number

powered : (more k x : ℕ) → k ≤ more → 10 ^ k ≤ x → x < 10 * 10 ^ k → width_from more x ≡ k + 1
unfolding width_from
powered zero k x h p q = omega arith
powered (suc more) zero x h p q = simp (le-leb x 9 (omega arith))
powered (suc more) (suc k) x h p q =
    let e : 10 ^ suc k ≡ 10 ^ k * 10 = pow-suc 10 k in
    let some : 1 ≤ 10 ^ k = one-le-pow k 10 (omega arith) in
    simp (lt-leb x 9 (omega arith)) (omega (arith, powered more k (x / 10) (omega arith) (omega arith) (omega arith)))

pub width_zero : (x : ℕ) → x ≡ 0 → 1 ≡ width_of x
unfolding width_of width_from
width_zero x e = simp e

pub width_powered : (x k : ℕ) → k < 20 → 10 ^ k ≤ x → x < 10 * 10 ^ k → k + 1 ≡ width_of x
unfolding width_of
width_powered x k h p q = sym (powered 19 k x (omega arith) p q)

pub ruleset width_cases = (width_zero, width_powered)

-- ---- the loop that writes them, the last one first: those of v are still to be written, below p

set_swap : (l : List ℕ) (i j a b : ℕ) → (i ≡ j → ⊥) → set (set l i a) j b ≡ set (set l j b) i a
set_swap [] i j a b h = refl
set_swap (x ∷ xs) zero zero a b h = absurd (h refl)
set_swap (x ∷ xs) zero (suc j) a b h = refl
set_swap (x ∷ xs) (suc i) zero a b h = refl
set_swap (x ∷ xs) (suc i) (suc j) a b h = ap (λ (l : List ℕ). x ∷ l) (set_swap xs i j a b (λ e. h (ap suc e)))

set_past_over : (l : List ℕ) (at : ℕ) (xs : List ℕ) (p v : ℕ) → at + length xs ≤ p → over (set l p v) at xs ≡ set (over l at xs) p v
unfolding over
set_past_over l at [] p v h = refl
set_past_over l at (x ∷ xs) p v h =
    ap (λ (m : List ℕ). over m (suc at) xs) (set_swap l p at v x (λ e. omega arith)) ∙ set_past_over (set l at x) (suc at) xs p v (omega arith)

pub record Putting (out₀ : List ℕ) (at x past : ℕ) (out : List ℕ) (v p : ℕ) : Type 0 where
  pub end : past ≡ at + width_of x
  pub same : length out ≡ length out₀
  pub room : past ≤ length out₀
  pub least : at ≤ p
  pub most : p ≤ past
  pub is : over out at (digits_of (p - at) v) ≡ over out₀ at (decimal_of x)

width_few : (x : ℕ) → width_of x ≤ 20
unfolding width_of
width_few x = width_most 19 x

pub past_fits : (at x : ℕ) {w m : ℕ} → w ≡ width_of x → at + 20 ≤ m → Fits w64 m → Fits w64 (at + w)
past_fits at x e h f = record { fits = omega (arith, width_few, f) }

pub put_start : (out : List ℕ) (at x : ℕ) {w : ℕ} → w ≡ width_of x → at + 20 ≤ length out → Putting out at x (at + w) out x (at + w)
unfolding decimal_of
put_start out at x {w} e h =
    let q : at + w - at ≡ width_of x = omega arith in
    record { end = omega arith; same = refl; room = omega (arith, width_few x); least = omega arith; most = omega arith; is = rw q refl }

module _ (out₀ : List ℕ) (at x past : ℕ) (out : List ℕ) (v p : ℕ) (state : Putting out₀ at x past out v p) where
  pub put_on : at < p → Putting out₀ at x past (set out (p - 1) (48 + v % 10)) (v / 10) (p - 1)
  unfolding digits_of over
  put_on some =
      let i : ℕ = p - 1 in
      let s : p - at ≡ suc (i - at) = omega arith in
      let d : length (digits_of (i - at) (v / 10)) ≡ i - at = length_digits (i - at) (v / 10) in
      let q : i ≡ at + length (digits_of (i - at) (v / 10)) = omega arith in
      record {
        end = state.end;
        same = length-set out i (48 + v % 10) ∙ state.same;
        room = state.room;
        least = omega arith;
        most = omega arith;
        is =
            set_past_over out at (digits_of (i - at) (v / 10)) i (48 + v % 10) (omega arith)
            ∙ ap (λ (j : ℕ). set (over out at (digits_of (i - at) (v / 10))) j (48 + v % 10)) q
            ∙ sym (over_append out at (digits_of (i - at) (v / 10)) ((48 + v % 10) ∷ []))
            ∙ (rw s at state.is);
      }

  pub put_past : past ≡ at + length (decimal_of x)
  put_past = omega (arith, decimal_length x)

  pub put_end : p ≤ at → out ≡ over out₀ at (decimal_of x)
  unfolding digits_of over
  put_end h =
      let z : p - at ≡ 0 = omega arith in
      rw z at state.is

pub ruleset put_cases = (past_fits, put_start, put_on, put_past, put_end)
