-- A line is decided by its first fifteen bytes: what follows them does not matter, and the next line starts within them.
-- Assumes nothing.
use mathlib.Core.Path.{◌≡◌, refl}
use mathlib.Core.List.{List, [], ◌∷◌}
use Prim.Native.Nat.{ℕ, zero, suc, ◌+◌, ◌-◌, ◌*◌, ◌≤◌, ◌<◌}
use native.Mathlib.Omega.{arith}
use lib.Dec.{leb, eqb}
use lib.ListN.{length, take, drop, length-take}
use borrow.Author.Tests.{leb-false, lt-leb}
use Rattle.lists.proofs.Tests.{either}
use Rattle.lists.proofs.Lists.{drop_take}
use Rattle.text.specs.declared.Symbol.{Symbol}
use Rattle.text.specs.declared.Symbol.TheVariants.{Digit, Newline, Other}
use Rattle.text.specs.declared.Line.TheVariants.{Number, Bad}
use Rattle.text.specs.Lines.{digits_most, symbol_of, rest_of, byte_of, line_at}

never : {C : Type 0} {v next : ℕ} → Bad ≡ Number v next → C
never e = absurd (let z : ◌≡◌ {A = ℕ} 0 1 = cc in omega arith)

-- after n digits at most 15 - n bytes more are looked at
rest_cut : (l : List ℕ) (c p v n : ℕ) → n ≤ digits_most → 15 ≤ c + n → rest_of (take c l) p v n ≡ rest_of l p v n
unfolding rest_of
rest_cut [] zero p v n h g = refl
rest_cut [] (suc c) p v n h g = refl
rest_cut (x ∷ xs) zero p v n h g = absurd (omega arith)
rest_cut (x ∷ xs) (suc c) p v n h g =
    byte (symbol_of x)
    (λ d l. rest_cut xs c (p + 1) (v * 10 + d) (n + 1) (omega arith) (omega arith))
  where
    byte :
        (y : Symbol) → ((d : ℕ) → n < digits_most → rest_of (take c xs) (p + 1) (v * 10 + d) (n + 1) ≡ rest_of xs (p + 1) (v * 10 + d) (n + 1))
        → byte_of y p v n (λ d. rest_of (take c xs) (p + 1) (v * 10 + d) (n + 1)) ≡ byte_of y p v n (λ d. rest_of xs (p + 1) (v * 10 + d) (n + 1))
    byte Newline same = refl
    byte Other same = refl
    byte (Digit d) same = either (leb digits_most n) (λ t. simp t) (λ t. simp t (same d (leb-false digits_most n t)))

pub line_cut : (text : List ℕ) (at m : ℕ) → at + 15 ≤ m → m ≤ length text → line_at (take m text) at ≡ line_at text at
unfolding line_at
line_cut text at m h g =
    let e : length (take m text) ≡ m = simp length-take (omega arith) in
    rw (e, lt-leb m at (omega arith), lt-leb (length text) at (omega arith), drop_take at m text)
    (rest_cut (drop at text) (m - at) at 0 0 (omega arith) (omega arith))

-- the next line starts within them
rest_near : (l : List ℕ) (p v n w next : ℕ) → n ≤ digits_most → rest_of l p v n ≡ Number w next → next + n ≤ p + 15
unfolding rest_of
rest_near [] p v n w next h = λ q. never q
rest_near (x ∷ xs) p v n w next h =
    byte (symbol_of x) (λ d l q. omega (arith, rest_near xs (p + 1) (v * 10 + d) (n + 1) w next (omega arith) q))
  where
    byte :
        (y : Symbol) → ((d : ℕ) → n < digits_most → rest_of xs (p + 1) (v * 10 + d) (n + 1) ≡ Number w next → next + n ≤ p + 15)
        → byte_of y p v n (λ d. rest_of xs (p + 1) (v * 10 + d) (n + 1)) ≡ Number w next → next + n ≤ p + 15
    byte Newline more = either (eqb n 0) (λ t. simp t (λ q. never q)) (λ t. simp t (λ q. let e : p + 1 ≡ next = cc in omega arith))
    byte Other more = λ q. never q
    byte (Digit d) more = either (leb digits_most n) (λ t. simp t (λ q. never q)) (λ t. simp t (λ q. more d (leb-false digits_most n t) q))

pub line_near : (text : List ℕ) (at v next : ℕ) → line_at text at ≡ Number v next → next ≤ at + 15
unfolding line_at
line_near text at v next =
    either (leb (length text) at) (λ t. simp t (λ q. absurd (let z : ◌≡◌ {A = ℕ} 0 1 = cc in omega arith)))
    (λ t. simp t (λ q. omega (arith, rest_near (drop at text) at 0 0 v next (omega arith) q)))
