-- The cases of a guess and a window, and that the numbers of a guess are small.
-- Assumes nothing.
use Rattle.std.specs.Prelude.{Option, Some, None}
use mathlib.Core.Path.{◌≡◌, refl, sym, ap, subst, ◌∙◌}
use Prim.Native.Nat.{ℕ, ◌+◌, ◌-◌, ◌*◌, ◌/◌, ◌^◌, ◌≤◌, ◌<◌, min, max}
use native.Mathlib.Nat.{zero-sub, mul-le-mul, div-le_self, lt_of_le_of_lt}
use native.Mathlib.Omega.{arith}
use mir.Syntax.{w64}
use mir.Val.{Fits}
use borrow.Author.Tests.{lt-ltb, le-ltb}
use lib.Dec.{ltb, lit<}
use Rattle.terms.specs.declared.Key.{Key}
use Rattle.terms.specs.declared.Pos.{Pos}
use Rattle.terms.specs.declared.Entry.{Entry}
use Rattle.terms.specs.Limits.{key_limit, rise_most}
use Rattle.lists.proofs.Tests.{either}
use Rattle.products.specs.Products.{Divisible}
use Rattle.line.specs.declared.Span.{Span}
use Rattle.line.specs.declared.Places.{Places}
use Rattle.line.specs.Line.{Lined, Reaching, guess_at, guess_of, near_of, around_of, window_of, reach_of}

-- the product of two numbers below bounds that are written out
product : (a b m n : ℕ) → a ≤ m → b ≤ n → a * b ≤ m * n
product a b m n h g = mul-le-mul h g

rise_small : (x : Entry) (k : Key) → Lined x k → (k.0 - x.first.0) * x.rise < 2 ^ 60
rise_small x k s = lt_of_le_of_lt (product (k.0 - x.first.0) x.rise key_limit rise_most (omega arith) (omega arith)) (lit< tt)

pub guess_asks : (x : Entry) (k : Key) {d : ℕ} → Lined x k → d ≡ k.0 - x.first.0 → Divisible d x.rise x.run
guess_asks x k s e = rw e record { product = omega (arith, rise_small x k s); run_some = s.run_some }

pub guess_fits : (x : Entry) (k : Key) {d q : ℕ} → Lined x k → d ≡ k.0 - x.first.0 → q ≡ d * x.rise / x.run → Fits w64 (x.base.0 + q)
guess_fits x k {q = q} s e p =
    let far : q ≡ (k.0 - x.first.0) * x.rise / x.run = cc in
    record { fits = omega (arith, rise_small x k s, div-le_self ((k.0 - x.first.0) * x.rise) x.run) }

-- what the code's `?` passes on, and what it answers
pub guess_none : (x : Entry) (k : Key) {g : Option Pos} → g ≡ None → ¬ (x.first.0 ≤ k.0) → g ≡ guess_of x k
unfolding guess_of
guess_none x k p h = simp (p, lt-ltb k.0 x.first.0 (omega arith))

pub guess_some : (x : Entry) (k : Key) {d q : ℕ} → x.first.0 ≤ k.0 → d ≡ k.0 - x.first.0 → q ≡ d * x.rise / x.run → Some (record { 0 = x.base.0 + q }) ≡ guess_of x k
unfolding guess_of
guess_some x k h e p = simp (le-ltb _ _ h, p, e)

pub ruleset guess_cases = (guess_asks, guess_fits, guess_some)

-- the cases of `window`
pub window_none : (e : ℕ) (x : Entry) (k : Key) {g : Option Pos} → g ≡ guess_of x k → g ≡ None → record { from = record { 0 = 0 }; to = record { 0 = 0 } } ≡ window_of e x k
unfolding window_of
window_none e x k p q = ap (around_of e x) (sym q ∙ p)

pub window_near : (e : ℕ) (x : Entry) (k : Key) {g : Option Pos} {p : Pos} {w : Span} → g ≡ guess_of x k → g ≡ Some p → w ≡ near_of e x p → w ≡ window_of e x k
unfolding window_of
window_near e x k is at w = w ∙ ap (around_of e x) (sym at ∙ is)

pub ruleset window_cases = (window_none, window_near)

-- the window stands in the segment
pub window_inside : (e : ℕ) (x : Entry) (k : Key) → (window_of e x k).to.0 ≤ x.end.0
unfolding window_of guess_of
window_inside e x k = either (ltb k.0 x.first.0) (λ h. simp h (omega arith)) (λ h. simp h (omega arith))

-- the ends of a window about g, which is not below the base, as places from the base on
from_reach : (e base g : ℕ) → base ≤ g → g - base - e ≡ max base (g - e) - base
from_reach e base g h = omega arith

to_reach : (e base end g : ℕ) → base ≤ g → base ≤ end → min (end - base) (g - base + e + 1) ≡ min end (g + e + 1) - base
to_reach e base end g h l = omega arith

-- what a guess is
abbrev placed : Option Pos → ℕ
placed None = 0
placed (Some p) = p.0

abbrev IsAt : Option Pos → Type 0
IsAt None = ⊥
IsAt (Some p) = Unit

no_guess_at : {p : Pos} → None ≡ Some p → ⊥
no_guess_at e = subst IsAt (sym e) tt

-- the cases of `reach`: a guess is not below the base
pub reach_asks : (x : Entry) (k : Key) → Reaching x k → Lined x k
reach_asks x k s = s.lined

module _ (x : Entry) (k : Key) {g : Option Pos} (is : g ≡ guess_of x k) where
  pub guess_from : {p : Pos} → g ≡ Some p → x.base.0 ≤ p.0
  unfolding guess_of
  guess_from {p} at =
      either (ltb k.0 x.first.0)
      (λ h. let z : None ≡ Some p = simp h at (sym is ∙ at) in absurd (no_guess_at z))
      (λ h. let z : Some (record { 0 = guess_at x k }) ≡ Some p = simp h at (sym is ∙ at) in omega (arith, ap placed z))

  pub reach_none : (e : ℕ) → g ≡ None → record { from = 0; to = 0 } ≡ reach_of e x k
  unfolding reach_of window_of
  reach_none e at = rw (sym is ∙ at, zero-sub) refl

  pub reach_some : (e : ℕ) {p : Pos} {f t : ℕ} → Reaching x k → g ≡ Some p → f ≡ p.0 - x.base.0 - e → t ≡ min (x.end.0 - x.base.0) (p.0 - x.base.0 + e + 1)
      → record { from = f; to = t } ≡ reach_of e x k
  unfolding reach_of window_of
  reach_some e {p} s at a b = simp (sym is ∙ at, a, b, from_reach e x.base.0 p.0 (guess_from at), to_reach e x.base.0 x.end.0 p.0 (guess_from at) s.some)

pub ruleset reach_cases = (reach_asks, guess_from, reach_none, reach_some)

-- it stands in the run
pub reach_inside : (e : ℕ) (x : Entry) (k : Key) {r : Places} → r ≡ reach_of e x k → r.to ≤ x.end.0 - x.base.0
unfolding reach_of
reach_inside e x k p = rw p (omega (arith, window_inside e x k))
