-- The cases of what is printed: each piece is written after the one before.
-- Assumes nothing.
use mathlib.Core.Path.{◌≡◌, refl, sym, ap, ◌∙◌}
use mathlib.Core.List.{List, [], ◌∷◌, ◌++◌, append_assoc}
use Prim.Native.Nat.{ℕ, zero, suc, ◌+◌, ◌-◌, ◌*◌, ◌%◌, ◌≤◌, ◌<◌}
use native.Mathlib.Nat.{zero-add}
use native.Mathlib.Numerals.{add-one}
use native.Mathlib.Omega.{arith}
use mir.Syntax.{w64}
use mir.Val.{Fits}
use borrow.Author.Tests.{eq-eqb, ne_eqb}
use lib.ListN.{length, get_or, set, take, length-append}
use Rattle.std.proofs.lemmas.List.{length-take-le, get_or-take}
use borrow.Rule.Slice.PartMut.{put_mid}
use Rattle.std.proofs.lemmas.Slice.{put_mid-paste}
use Rattle.std.proofs.lemmas.List.Edits.{paste_all}
use Rattle.lists.specs.Over.{over, Writing}
use Rattle.lists.proofs.Over.{length_over, over_append, over_is, set_over, writing_start, writing_step, writing_end, writing_place}
use Rattle.terms.specs.declared.Refusal.{Refusal}
use Rattle.terms.specs.Refusals.{number_of, place_of}
use Rattle.text.specs.Decimal.{decimal_of}
use Rattle.text.proofs.Decimal.{decimal_most}
use Rattle.cut_output.specs.Report.{Named, Cells, Report, field_of, named_of, last_of, keys_segments, bound_buffer, counts_of, closing_of, cells_of, report_of, refusal_of}

-- a piece after a piece
pub after_written : (out₀ : List ℕ) (at : ℕ) (xs ys : List ℕ) {o₁ o₂ : List ℕ} {p : ℕ} → o₁ ≡ over out₀ at xs → p ≡ at + length xs → o₂ ≡ over o₁ p ys → o₂ ≡ over out₀ at (xs ++ ys)
after_written out₀ at xs ys w e v = v ∙ rw (w, e) (sym (over_append out₀ at xs ys))

pub after_past : (at : ℕ) (xs ys : List ℕ) {p q : ℕ} → p ≡ at + length xs → q ≡ p + length ys → q ≡ at + length (xs ++ ys)
after_past at xs ys e f = omega (arith, length-append xs ys)

-- ---- a byte, and a word

pub byte_written : (out : List ℕ) (at c : ℕ) → set out at c ≡ over out at (c ∷ [])
byte_written = set_over

pub ruleset byte_cases = byte_written

pub word_written : (out : List ℕ) (at : ℕ) {word part : List ℕ} → at + length word ≤ length out → part ≡ word → put_mid at (at + length word - at) out part ≡ over out at word
word_written out at {word} {part} h e =
    let q : length word ≡ at + length word - at = omega arith in
    put_mid-paste at (at + length word - at) out part word (length word) e q refl ∙ paste_all out at word (length word) refl ∙ sym (over_is out at word h)

pub ruleset word_cases = word_written

-- ---- a number and the byte after it

pub field_most : (x closing : ℕ) → length (field_of x closing) ≤ 21
unfolding field_of
field_most x closing = omega (arith, length-append (decimal_of x) (closing ∷ []), decimal_most x)

-- ---- a word and the number after it

pub named_most : (word : List ℕ) (x : ℕ) → length word ≤ 8 → length (named_of word x) ≤ 28
unfolding named_of
named_most word x h = omega (arith, length-append word (decimal_of x), decimal_most x)

module _ (out₀ : List ℕ) (at : ℕ) (word : List ℕ) where
  pub named_word : Named out₀ at word → at + length word ≤ length out₀
  named_word r = omega arith

  module _ {o₁ : List ℕ} {p : ℕ} (w : o₁ ≡ over out₀ at word) (e : p ≡ at + length word) where
    pub named_asks : Named out₀ at word → p + 20 ≤ length o₁
    named_asks r = omega (arith, ap length w, length_over out₀ at word)

    pub named_past : (x : ℕ) {r : ℕ} → r ≡ p + length (decimal_of x) → r ≡ at + length (named_of word x)
    unfolding named_of
    named_past x f = after_past at word (decimal_of x) e f

    pub named_written : (x : ℕ) {o₂ : List ℕ} → o₂ ≡ over o₁ p (decimal_of x) → o₂ ≡ over out₀ at (named_of word x)
    unfolding named_of
    named_written x v = after_written out₀ at word (decimal_of x) w e v

pub ruleset named_cases = (named_word, named_asks, named_past, named_written)

last_most : (word : List ℕ) (x : ℕ) → length word ≤ 8 → length (last_of word x) ≤ 29
unfolding last_of
last_most word x h = omega (arith, length-append (named_of word x) (10 ∷ []), named_most word x h)

-- ---- a named number after a named number

abbrev refused_word : List ℕ
refused_word = 114 ∷ (101 ∷ (102 ∷ (117 ∷ (115 ∷ (101 ∷ (100 ∷ (32 ∷ [])))))))

abbrev at_word : List ℕ
at_word = 32 ∷ (97 ∷ (116 ∷ (32 ∷ [])))

abbrev n_word : List ℕ
n_word = 110 ∷ (61 ∷ [])

abbrev s_word : List ℕ
s_word = 32 ∷ (115 ∷ (61 ∷ []))

abbrev e_word : List ℕ
e_word = 32 ∷ (101 ∷ (61 ∷ []))

abbrev b_word : List ℕ
b_word = 32 ∷ (98 ∷ (61 ∷ []))

-- xs are written from `at` on, and p is the place past them
record Put (out₀ : List ℕ) (at : ℕ) (xs out : List ℕ) (p : ℕ) : Type 0 where
  pub is : out ≡ over out₀ at xs
  pub past : p ≡ at + length xs

after : {out₀ : List ℕ} {at : ℕ} {xs o₁ : List ℕ} {p : ℕ} → Put out₀ at xs o₁ p → (ys : List ℕ) {o₂ : List ℕ} {q : ℕ} → o₂ ≡ over o₁ p ys → q ≡ p + length ys → Put out₀ at (xs ++ ys) o₂ q
after {out₀} {at} {xs} w ys v f = record { is = after_written out₀ at xs ys w.is w.past v; past = after_past at xs ys w.past f }

roomy : {out₀ : List ℕ} {at : ℕ} {xs out : List ℕ} {p : ℕ} → Put out₀ at xs out p → (m : ℕ) → at + length xs + m ≤ length out₀ → p + m ≤ length out
roomy {out₀} {at} {xs} w m h = omega (arith, w.past, ap length w.is, length_over out₀ at xs)

named_next : {out₀ : List ℕ} {at : ℕ} {xs out : List ℕ} {p : ℕ} → Put out₀ at xs out p → (word : List ℕ) → length word ≤ 8 → at + length xs + 29 ≤ length out₀ → Named out p word
named_next w word short h = record { short = short; room = roomy w 29 h }

-- ---- a refusal

refused_most : (m l : ℕ) → length (named_of refused_word m ++ named_of at_word l) ≤ 56
refused_most m l =
    omega (arith, length-append (named_of refused_word m) (named_of at_word l), named_most refused_word m (omega arith), named_most at_word l (omega arith))

module _ (out : List ℕ) {at : ℕ} (blank : at ≡ 0) where
  pub refusal_first : 60 ≤ length out → Named out at refused_word
  refusal_first h = record { short = omega arith; room = omega arith }

  module _ (m : ℕ) {o₁ : List ℕ} {p₁ : ℕ} (w₁ : o₁ ≡ over out at (named_of refused_word m)) (e₁ : p₁ ≡ at + length (named_of refused_word m)) where
    first : Put out 0 (named_of refused_word m) o₁ p₁
    first = rw (← blank) (record { is = w₁; past = e₁ })

    pub refusal_second : 60 ≤ length out → Named o₁ p₁ at_word
    refusal_second h = named_next first at_word (omega arith) (omega (arith, named_most refused_word m (omega arith)))

    module _ (l : ℕ) {o₂ : List ℕ} {p₂ : ℕ} (w₂ : o₂ ≡ over o₁ p₁ (named_of at_word l)) (e₂ : p₂ ≡ p₁ + length (named_of at_word l)) where
      second : Put out 0 (named_of refused_word m ++ named_of at_word l) o₂ p₂
      second = after first (named_of at_word l) w₂ e₂

      pub refusal_third : 60 ≤ length out → p₂ + 1 ≤ length o₂
      refusal_third h = roomy second 1 (omega (arith, refused_most m l))

      module _ (r : Refusal) {o₃ : List ℕ} {p₃ : ℕ} (w₃ : o₃ ≡ over o₂ p₂ (10 ∷ [])) (e₃ : p₃ ≡ p₂ + 1) (number : m ≡ number_of r) (place : l ≡ place_of r) where
        whole : Put out 0 (refusal_of r) o₃ p₃
        unfolding refusal_of last_of
        whole = rw (← number, ← place, ← append_assoc) (after second (10 ∷ []) w₃ e₃)

        pub refusal_past : p₃ ≡ length (refusal_of r)
        refusal_past = whole.past ∙ zero-add (length (refusal_of r))

        pub refusal_written : o₃ ≡ over out 0 (refusal_of r)
        refusal_written = whole.is

pub ruleset refusal_cases = (refusal_first, refusal_second, refusal_third, refusal_past, refusal_written)

-- ---- the counts

abbrev two_of : ℕ → ℕ → List ℕ
two_of n s = named_of n_word n ++ named_of s_word s

abbrev three_of : ℕ → ℕ → ℕ → List ℕ
three_of n s e = two_of n s ++ named_of e_word e

abbrev four_of : ℕ → ℕ → ℕ → ℕ → List ℕ
four_of n s e b = three_of n s e ++ named_of b_word b

n_most : (n : ℕ) → length (named_of n_word n) ≤ 28
n_most n = named_most n_word n (omega arith)

two_most : (n s : ℕ) → length (two_of n s) ≤ 56
two_most n s = omega (arith, length-append (named_of n_word n) (named_of s_word s), n_most n, named_most s_word s (omega arith))

three_most : (n s e : ℕ) → length (three_of n s e) ≤ 84
three_most n s e = omega (arith, length-append (two_of n s) (named_of e_word e), two_most n s, named_most e_word e (omega arith))

four_most : (n s e b : ℕ) → length (four_of n s e b) ≤ 112
four_most n s e b = omega (arith, length-append (three_of n s e) (named_of b_word b), three_most n s e, named_most b_word b (omega arith))

counts_are : (n s e b : ℕ) → four_of n s e b ++ (10 ∷ []) ≡ counts_of n s e b
unfolding counts_of keys_segments bound_buffer last_of
counts_are n s e b = simp append_assoc

counts_most : (n s e b : ℕ) → length (counts_of n s e b) ≤ 120
counts_most n s e b = omega (arith, ap length (counts_are n s e b), length-append (four_of n s e b) (10 ∷ []), four_most n s e b)

module _ (out : List ℕ) (at : ℕ) (h : at + 120 ≤ length out) where
  pub counts_first : Named out at n_word
  counts_first = record { short = omega arith; room = omega arith }

  module _ (n : ℕ) {o₁ : List ℕ} {p₁ : ℕ} (w₁ : o₁ ≡ over out at (named_of n_word n)) (e₁ : p₁ ≡ at + length (named_of n_word n)) where
    one : Put out at (named_of n_word n) o₁ p₁
    one = record { is = w₁; past = e₁ }

    pub counts_second : Named o₁ p₁ s_word
    counts_second = named_next one s_word (omega arith) (omega (arith, n_most n))

    module _ (s : ℕ) {o₂ : List ℕ} {p₂ : ℕ} (w₂ : o₂ ≡ over o₁ p₁ (named_of s_word s)) (e₂ : p₂ ≡ p₁ + length (named_of s_word s)) where
      two : Put out at (two_of n s) o₂ p₂
      two = after one (named_of s_word s) w₂ e₂

      pub counts_third : Named o₂ p₂ e_word
      counts_third = named_next two e_word (omega arith) (omega (arith, two_most n s))

      module _ (e : ℕ) {o₃ : List ℕ} {p₃ : ℕ} (w₃ : o₃ ≡ over o₂ p₂ (named_of e_word e)) (e₃ : p₃ ≡ p₂ + length (named_of e_word e)) where
        three : Put out at (three_of n s e) o₃ p₃
        three = after two (named_of e_word e) w₃ e₃

        pub counts_fourth : Named o₃ p₃ b_word
        counts_fourth = named_next three b_word (omega arith) (omega (arith, three_most n s e))

        module _ (b : ℕ) {o₄ : List ℕ} {p₄ : ℕ} (w₄ : o₄ ≡ over o₃ p₃ (named_of b_word b)) (e₄ : p₄ ≡ p₃ + length (named_of b_word b)) where
          four : Put out at (four_of n s e b) o₄ p₄
          four = after three (named_of b_word b) w₄ e₄

          pub counts_fifth : p₄ + 1 ≤ length o₄
          counts_fifth = roomy four 1 (omega (arith, four_most n s e b))

          module _ {o₅ : List ℕ} {p₅ : ℕ} (w₅ : o₅ ≡ over o₄ p₄ (10 ∷ [])) (e₅ : p₅ ≡ p₄ + 1) where
            five : Put out at (counts_of n s e b) o₅ p₅
            five = rw (← counts_are n s e b) (after four (10 ∷ []) w₅ e₅)

            pub counts_past : p₅ ≡ at + length (counts_of n s e b)
            counts_past = five.past

            pub counts_written : o₅ ≡ over out at (counts_of n s e b)
            counts_written = five.is

pub ruleset counts_cases = (counts_first, counts_second, counts_third, counts_fourth, counts_fifth, counts_past, counts_written)

-- ---- the cells

pub closing_line : (p : ℕ) → p % 5 ≡ 4 → 10 ≡ closing_of p
unfolding closing_of
closing_line p e = simp (eq-eqb _ _ e)

pub closing_space : (p : ℕ) → (p % 5 ≡ 4 → ⊥) → 32 ≡ closing_of p
unfolding closing_of
closing_space p e = simp (ne_eqb _ _ e)

pub ruleset closing_cases = (closing_line, closing_space)

pub cells_most : (table : List ℕ) (count p : ℕ) → length (cells_of table p count) ≤ 21 * count
unfolding cells_of
cells_most table zero p = omega arith
cells_most table (suc count) p =
    omega (arith, length-append (field_of (get_or table p 0) (closing_of p)) (cells_of table (suc p) count), field_most (get_or table p 0) (closing_of p), cells_most table count (suc p))

cells_take : (table : List ℕ) (m count p : ℕ) → p + count ≤ m → cells_of (take m table) p count ≡ cells_of table p count
unfolding cells_of
cells_take table m zero p h = refl
cells_take table m (suc count) p h = rw (cells_take table m count (suc p) (omega arith), get_or-take m table p 0 (omega arith)) refl

-- p cells are written, up to `past`
pub record Celling (out₀ : List ℕ) (at : ℕ) (table out : List ℕ) (p past : ℕ) : Type 0 where
  pub asked : Cells out₀ at table
  pub few : p ≤ length table
  pub near : past ≤ at + 21 * p
  pub writing : Writing out₀ at (cells_of table 0 (length table)) out past (cells_of table p (length table - p))

pub cells_start : (out : List ℕ) (at : ℕ) (table : List ℕ) → Cells out at table → Celling out at table out 0 at
cells_start out at table asked =
    let z : length table - 0 ≡ length table = omega arith in
    record {
      asked = asked;
      few = omega arith;
      near = omega arith;
      writing = rw z (writing_start out at (cells_of table 0 (length table)) (omega (arith, cells_most table (length table) 0)));
    }

module _ (out₀ : List ℕ) (at : ℕ) (table out : List ℕ) (p past : ℕ) (state : Celling out₀ at table out p past) where
  pub cells_number : p < length table → past + 20 ≤ length out
  cells_number h = omega (arith, state.asked, state.near, state.writing.same)

  module _ {o₁ : List ℕ} {q : ℕ} (w : o₁ ≡ over out past (decimal_of (get_or table p 0))) (e : q ≡ past + length (decimal_of (get_or table p 0))) where
    pub cells_closing : p < length table → q + 1 ≤ length o₁
    cells_closing h = omega (arith, state.asked, state.near, state.writing.same, ap length w, length_over out past (decimal_of (get_or table p 0)), decimal_most (get_or table p 0))

    pub cells_on : p < length table → {c r : ℕ} {o₂ : List ℕ} → c ≡ closing_of p → o₂ ≡ over o₁ q (c ∷ []) → r ≡ q + 1 → Celling out₀ at table o₂ (p + 1) r
    unfolding cells_of field_of
    cells_on h {c} {r} {o₂} k v f =
        let x : ℕ = get_or table p 0 in
        let z : length table - p ≡ suc (length table - suc p) = omega arith in
        let u : Writing out₀ at (cells_of table 0 (length table)) out past (field_of x (closing_of p) ++ cells_of table (suc p) (length table - suc p)) = rw z at state.writing in
        let written : o₂ ≡ over out past (field_of x c) = after_written out past (decimal_of x) (c ∷ []) w e v in
        let reached : r ≡ past + length (field_of x c) = after_past past (decimal_of x) (c ∷ []) e f in
        record {
          asked = state.asked;
          few = omega arith;
          near = omega (arith, state.near, field_most x c);
          writing =
              rw (add-one p)
              (writing_step out₀ at (cells_of table 0 (length table)) out past (field_of x (closing_of p)) (cells_of table (suc p) (length table - suc p)) u o₂
              (rw (← k) written) r (rw (← k) reached));
        }

  done_cells : length table ≤ p → Writing out₀ at (cells_of table 0 (length table)) out past []
  unfolding cells_of
  done_cells h = let z : length table - p ≡ 0 = omega arith in rw z at state.writing

  pub cells_past : length table ≤ p → past ≡ at + length (cells_of table 0 (length table))
  cells_past h = writing_place out₀ at (cells_of table 0 (length table)) out past (done_cells h)

  pub cells_written : length table ≤ p → out ≡ over out₀ at (cells_of table 0 (length table))
  cells_written h = writing_end out₀ at (cells_of table 0 (length table)) out past (done_cells h)

pub ruleset cells_cases = (cells_start, cells_number, cells_closing, cells_on, cells_past, cells_written)

-- ---- the report

module _ (out : List ℕ) (s : ℕ) (table : List ℕ) (asked : Report out s table) where
  pub report_fits : Fits w64 (5 * s)
  report_fits = record { fits = omega arith }

  pub report_first : {at : ℕ} → at ≡ 0 → at + 120 ≤ length out
  report_first e = omega arith

  -- the cells of the entries
  held : length (take (5 * s) table) ≡ 5 * s
  held = length-take-le (5 * s) table asked.held

  entries : cells_of (take (5 * s) table) 0 (length (take (5 * s) table)) ≡ cells_of table 0 (5 * s)
  entries = rw held (cells_take table (5 * s) (5 * s) 0 (omega arith))

  module _ (n e b : ℕ) {at : ℕ} (blank : at ≡ 0) {o₁ : List ℕ} {p₁ : ℕ} (w₁ : o₁ ≡ over out at (counts_of n s e b)) (e₁ : p₁ ≡ at + length (counts_of n s e b)) where
    pub report_second : Cells o₁ p₁ (take (5 * s) table)
    report_second = record { room = omega (arith, asked, held, counts_most n s e b, ap length w₁, length_over out at (counts_of n s e b)) }

    pub report_past : {p₂ : ℕ} → p₂ ≡ p₁ + length (cells_of (take (5 * s) table) 0 (length (take (5 * s) table))) → p₂ ≡ length (report_of n s e b table)
    unfolding report_of
    report_past f = omega (arith, ap length entries, length-append (counts_of n s e b) (cells_of table 0 (5 * s)))

    pub report_written : {o₂ : List ℕ} → o₂ ≡ over o₁ p₁ (cells_of (take (5 * s) table) 0 (length (take (5 * s) table))) → o₂ ≡ over out 0 (report_of n s e b table)
    unfolding report_of
    report_written w₂ = after_written out 0 (counts_of n s e b) (cells_of table 0 (5 * s)) (rw blank at w₁) (rw blank at e₁) (w₂ ∙ ap (over o₁ p₁) entries)

pub ruleset report_cases = (report_fits, report_first, report_second, report_past, report_written)

-- ---- how long they are

pub report_most : (n s e b : ℕ) (table : List ℕ) → length (report_of n s e b table) ≤ 120 + 105 * s
unfolding report_of
report_most n s e b table =
    omega (arith, length-append (counts_of n s e b) (cells_of table 0 (5 * s)), counts_most n s e b, cells_most table (5 * s) 0)

pub refusal_most : (r : Refusal) → length (refusal_of r) ≤ 60
unfolding refusal_of
refusal_most r =
    omega (arith, length-append (named_of refused_word (number_of r)) (last_of at_word (place_of r)), named_most refused_word (number_of r) (omega arith), last_most at_word (place_of r) (omega arith))
