-- The cases of a line, as the loop that reads one meets them.
-- Assumes nothing.
use mathlib.Core.Path.{◌≡◌, sym, ap, ◌∙◌}
use mathlib.Core.List.{List, ◌∷◌}
use Prim.Native.Nat.{ℕ, suc, ◌+◌, ◌-◌, ◌*◌, ◌^◌, ◌≤◌, ◌<◌}
use native.Mathlib.Nat.{add-zero, pow-suc, lt_of_lt_of_le, pow-le-pow_right}
use native.Mathlib.Numerals.{add-one}
use native.Mathlib.Omega.{arith}
use mir.Syntax.{w64}
use mir.Val.{Fits}
use lib.Dec.{ltb, eqb, lit<}
use lib.ListN.{length, get_or, drop, drop_of_length-le}
use lib.Seq.{drop-cons}
use Rattle.std.specs.List.{between}
use Rattle.std.proofs.lemmas.Slice.{between_to_end}
use borrow.Author.Tests.{lt-ltb, le-ltb, le-leb, lt-leb, eq-eqb, ne_eqb, ltb-false}
use Rattle.lists.proofs.Tests.{either}
use Rattle.text.specs.declared.Symbol.{Symbol}
use Rattle.text.specs.declared.Symbol.TheVariants.{Digit, Newline, Other}
use Rattle.text.specs.declared.Line.TheVariants.{Number, Bad, End}
use Rattle.text.specs.Lines.{digits_most, symbol_of, rest_of, byte_of, line_at}

-- ---- a byte

pub is_newline : (c : ℕ) → c ≡ 10 → Newline ≡ symbol_of c
unfolding symbol_of
is_newline c e = simp (eq-eqb c 10 e)

module _ (c : ℕ) (other : c ≡ 10 → ⊥) where
  pub below_digits : c < 48 → Other ≡ symbol_of c
  unfolding symbol_of
  below_digits h = simp (ne_eqb c 10 other, lt-ltb c 48 h)

  pub above_digits : 48 ≤ c → 57 < c → Other ≡ symbol_of c
  unfolding symbol_of
  above_digits h g = simp (ne_eqb c 10 other, le-ltb c 48 h, lt-ltb 57 c g)

  pub is_digit : 48 ≤ c → c ≤ 57 → Digit (c - 48) ≡ symbol_of c
  unfolding symbol_of
  is_digit h g = simp (ne_eqb c 10 other, le-ltb c 48 h, le-ltb 57 c g)

pub ruleset symbol_cases = (is_newline, below_digits, above_digits, is_digit)

-- ---- a line that starts at `at`, where the text is `rest`: n digits are read, and make v

pub record Reading (text rest : List ℕ) (at v n : ℕ) : Type 0 where
  pub few : n ≤ digits_most
  pub small : v < 10 ^ n
  pub is : rest_of (drop n rest) (at + n) v n ≡ line_at text at

pub at_end : (text : List ℕ) (at : ℕ) → length text ≤ at → End ≡ line_at text at
unfolding line_at
at_end text at h = simp (le-leb (length text) at h)

pub line_start : (text : List ℕ) (at : ℕ) → at < length text → Reading text (between at (length text) text) at 0 0
unfolding line_at
line_start text at h =
    let e : between at (length text) text ≡ drop at text = between_to_end text at (length text) (omega arith) in
    record { few = omega arith; small = lit< tt; is = rw (e, add-zero at) (sym (simp (lt-leb (length text) at h))) }

small_more : (v n d : ℕ) → v < 10 ^ n → d ≤ 9 → v * 10 + d < 10 ^ (n + 1)
small_more v n d h k = let s : 10 ^ suc n ≡ 10 ^ n * 10 = pow-suc 10 n in rw (add-one n) (omega (arith, s))

digit_small : (c d : ℕ) → symbol_of c ≡ Digit d → d ≤ 9
unfolding symbol_of
digit_small c d q =
    either (eqb c 10) (λ t. let r : Newline ≡ Digit d = simp t at q in absurd (let z : ◌≡◌ {A = ℕ} 0 1 = cc in omega arith))
    (λ t. either (ltb c 48) (λ u. let r : Other ≡ Digit d = simp (t, u) at q in absurd (let z : ◌≡◌ {A = ℕ} 0 1 = cc in omega arith))
    (λ u. either (ltb 57 c) (λ w. let r : Other ≡ Digit d = simp (t, u, w) at q in absurd (let z : ◌≡◌ {A = ℕ} 0 1 = cc in omega arith))
    (λ w. let r : Digit (c - 48) ≡ Digit d = simp (t, u, w) at q in let e : c - 48 ≡ d = cc in omega (arith, ltb-false 57 c w))))

module _ (text rest : List ℕ) (at v n : ℕ) (state : Reading text rest at v n) where
  -- no newline before the end
  pub line_short : length rest ≤ n → Bad ≡ line_at text at
  unfolding rest_of
  line_short h = ap (λ (l : List ℕ). rest_of l (at + n) v n) (sym (drop_of_length-le rest h)) ∙ state.is

  module _ (h : n < length rest) {y : Symbol} (is : y ≡ symbol_of (get_or rest n 0)) where
    unroll : byte_of y (at + n) v n (λ d. rest_of (drop (n + 1) rest) (at + n + 1) (v * 10 + d) (n + 1)) ≡ line_at text at
    unfolding rest_of
    unroll =
        ap (λ (s : Symbol). byte_of s (at + n) v n (λ d. rest_of (drop (n + 1) rest) (at + n + 1) (v * 10 + d) (n + 1))) is
        ∙ sym (ap (λ (l : List ℕ). rest_of l (at + n) v n) (drop-cons rest n 0 h ∙ ap (λ (m : ℕ). get_or rest n 0 ∷ drop m rest) (sym (add-one n))))
        ∙ state.is

    pub line_empty : y ≡ Newline → n ≡ 0 → Bad ≡ line_at text at
    line_empty q z = sym (simp (q, eq-eqb n 0 z)) ∙ unroll

    pub line_whole : y ≡ Newline → (n ≡ 0 → ⊥) → Number v (at + n + 1) ≡ line_at text at
    line_whole q z = sym (simp (q, ne_eqb n 0 z)) ∙ unroll

    pub line_other : y ≡ Other → Bad ≡ line_at text at
    line_other q = sym (simp q) ∙ unroll

    module _ {d : ℕ} (q : y ≡ Digit d) where
      pub line_long : digits_most ≤ n → Bad ≡ line_at text at
      line_long g = sym (simp (q, le-leb digits_most n g)) ∙ unroll

      module _ (g : n < digits_most) where
        v_small : v < 10 ^ 13
        v_small = let m : n ≤ 13 = omega arith in lt_of_lt_of_le state.small (pow-le-pow_right (lit< tt) m)

        d_small : d ≤ 9
        d_small = digit_small (get_or rest n 0) d (sym is ∙ q)

        pub digit_fits : Fits w64 (v * 10)
        digit_fits = record { fits = omega (arith, v_small) }

        pub digits_fit : Fits w64 (v * 10 + d)
        digits_fit = record { fits = omega (arith, v_small, d_small) }

        pub line_on : Reading text rest at (v * 10 + d) (n + 1)
        line_on =
            let e : at + (n + 1) ≡ at + n + 1 = omega arith in
            record { few = omega arith; small = small_more v n d state.small d_small; is = rw e (sym (simp (q, lt-leb digits_most n g)) ∙ unroll) }

pub ruleset line_cases = (at_end, line_start, line_short, line_empty, line_whole, line_other, line_long, digit_fits, digits_fit, line_on)
