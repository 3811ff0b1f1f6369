-- The cases of the input's lines, as the functions that read them meet them.
-- Assumes nothing.
use Rattle.std.specs.Prelude.{Result, Ok, Err}
use mathlib.Core.Path.{◌≡◌, refl, sym, ap, ◌∙◌}
use mathlib.Core.List.{List, []}
use Prim.Native.Nat.{ℕ, zero, suc, ◌+◌, ◌-◌, ◌≤◌, ◌<◌}
use native.Mathlib.Numerals.{add-one}
use native.Mathlib.Omega.{arith}
use lib.ListN.{length, get_or, set, length-set}
use Rattle.std.proofs.lemmas.List.{set-get_or}
use Rattle.lists.specs.Over.{over}
use Rattle.terms.specs.declared.Refusal.{Refusal}
use Rattle.terms.specs.declared.Refusal.TheVariants.{KeyRoom, BadLine}
use Rattle.text.specs.declared.Line.{Line}
use Rattle.text.specs.declared.Line.TheVariants.{Number, Bad, End}
use Rattle.text.specs.Lines.{line_at, Inside}
use Rattle.cut_input.specs.declared.Listed.{Listed}
use Rattle.cut_input.specs.StartList.{keys_of, value_or, values_of, number_or, number_at, counted, after_b, after_e, listed_of, given_after_e, given_of}

-- ---- the loop over the keys: k are read, and the next line starts at p

pub record Taking (text : List ℕ) (at : ℕ) (keys₀ keys : List ℕ) (p k : ℕ) : Type 0 where
  pub same : length keys ≡ length keys₀
  pub inside : p ≤ length text
  pub few : k ≤ length keys₀
  pub answer : keys_of (length keys₀ - k) text p k ≡ keys_of (length keys₀) text at 0
  pub cells : over keys k (values_of (length keys₀ - k) text p) ≡ over keys₀ 0 (values_of (length keys₀) text at)

pub take_start : (text : List ℕ) (at : ℕ) (keys : List ℕ) → at ≤ length text → Taking text at keys keys at 0
take_start text at keys h =
    let z : length keys - 0 ≡ length keys = omega arith in
    record { same = refl; inside = h; few = omega arith; answer = rw z refl; cells = rw z refl }

module _ (text : List ℕ) (at : ℕ) (keys₀ keys : List ℕ) (p k : ℕ) (state : Taking text at keys₀ keys p k) {l : Line} (line : l ≡ line_at text p) where
  -- the text is over, or the line is malformed: whether there is room or not
  ended : (room : ℕ) → l ≡ End → keys_of room text p k ≡ Ok k
  unfolding keys_of
  ended zero e = simp (sym line ∙ e)
  ended (suc room) e = simp (sym line ∙ e)

  spoilt : (room : ℕ) → l ≡ Bad → keys_of room text p k ≡ Err (BadLine (k + 3))
  unfolding keys_of
  spoilt zero e = simp (sym line ∙ e)
  spoilt (suc room) e = simp (sym line ∙ e)

  ended_none : (room : ℕ) → l ≡ End → values_of room text p ≡ []
  unfolding values_of
  ended_none zero e = refl
  ended_none (suc room) e = simp (sym line ∙ e)

  spoilt_none : (room : ℕ) → l ≡ Bad → values_of room text p ≡ []
  unfolding values_of
  spoilt_none zero e = refl
  spoilt_none (suc room) e = simp (sym line ∙ e)

  stays : values_of (length keys₀ - k) text p ≡ [] → keys ≡ over keys₀ 0 (values_of (length keys₀) text at)
  unfolding over
  stays e = (rw e at state.cells)

  pub keys_end : l ≡ End → Ok k ≡ keys_of (length keys₀) text at 0
  keys_end e = sym (ended (length keys₀ - k) e) ∙ state.answer

  -- the cell that was lent for it stays too
  pub keys_end_cells : l ≡ End → set keys k (get_or keys k 0) ≡ over keys₀ 0 (values_of (length keys₀) text at)
  keys_end_cells e = set-get_or keys k 0 ∙ stays (ended_none (length keys₀ - k) e)

  pub keys_bad : l ≡ Bad → Err (BadLine (k + 3)) ≡ keys_of (length keys₀) text at 0
  keys_bad e = sym (spoilt (length keys₀ - k) e) ∙ state.answer

  pub keys_bad_cells : l ≡ Bad → set keys k (get_or keys k 0) ≡ over keys₀ 0 (values_of (length keys₀) text at)
  keys_bad_cells e = set-get_or keys k 0 ∙ stays (spoilt_none (length keys₀ - k) e)

  -- every cell is written
  module _ (full : length keys₀ ≤ k) where
    none_left : length keys₀ - k ≡ 0
    none_left = omega (arith, state.same)

    all_read : length keys ≡ k
    all_read = omega (arith, state.same, state.few)

    pub full_end : l ≡ End → Ok (length keys) ≡ keys_of (length keys₀) text at 0
    full_end e = ap Ok all_read ∙ keys_end e

    pub full_bad : l ≡ Bad → Err (BadLine (length keys + 3)) ≡ keys_of (length keys₀) text at 0
    full_bad e = ap (λ (m : ℕ). Err (BadLine (m + 3))) all_read ∙ keys_bad e

    pub full_number : {v next : ℕ} → l ≡ Number v next → Err KeyRoom ≡ keys_of (length keys₀) text at 0
    unfolding keys_of
    full_number number = sym (simp (none_left, sym line ∙ number)) ∙ state.answer

    pub full_cells : keys ≡ over keys₀ 0 (values_of (length keys₀) text at)
    unfolding values_of
    full_cells = stays (rw none_left refl)

  module _ {v next : ℕ} (number : l ≡ Number v next) where
    pub take_on : k < length keys → Inside (length text) l → Taking text at keys₀ (set keys k v) next (k + 1)
    unfolding keys_of values_of over
    take_on h i =
        let z : length keys₀ - k ≡ suc (length keys₀ - (k + 1)) = omega (arith, state.same) in
        let q : line_at text p ≡ Number v next = sym line ∙ number in
        record {
          same = length-set keys k v ∙ state.same;
          inside = rw number at i;
          few = omega (arith, state.same);
          answer = (simp (z, q) at state.answer);
          cells = ap (λ (m : ℕ). over (set keys k v) m (values_of (length keys₀ - (k + 1)) text next)) (add-one k) ∙ (simp (z, q) at state.cells);
        }

pub ruleset keys_cases = (take_start, take_on, keys_end, keys_end_cells, keys_bad, keys_bad_cells, full_end, full_bad, full_number, full_cells)

-- ---- a line that must be there: what goes on after it, or does not

missing : (l : Line) (k : ℕ) {r : Refusal} (more : ℕ → ℕ → Result Listed Refusal) → Err r ≡ number_at l k → Err r ≡ number_or l k more
missing End k {r} more h = let e : r ≡ BadLine k = cc in ap Err e
missing Bad k {r} more h = let e : r ≡ BadLine k = cc in ap Err e
missing (Number v next) k more h = cc

missing_none : (l : Line) (k : ℕ) {r : Refusal} (more : ℕ → ℕ → List ℕ) → Err r ≡ number_at l k → [] ≡ value_or l more
missing_none End k more h = refl
missing_none Bad k more h = refl
missing_none (Number v next) k more h = cc

found : (l : Line) (k : ℕ) {v next : ℕ} → Ok (v, next) ≡ number_at l k → l ≡ Number v next
found End k h = cc
found Bad k h = cc
found (Number w past) k {v} {next} h = let e : ◌≡◌ {A = ℕ × ℕ} (w, past) (v, next) = cc in ap (λ (p : ℕ × ℕ). Number p.0 p.1) e

-- ---- the whole list

module _ (room : ℕ) (text : List ℕ) where
  pub first_missing : {r : Refusal} {a : Result Listed Refusal} → a ≡ Err r → Err r ≡ number_at (line_at text 0) 1 → a ≡ listed_of room text
  unfolding listed_of
  first_missing p h = p ∙ missing (line_at text 0) 1 _ h

  pub first_none : (keys : List ℕ) {r : Refusal} → Err r ≡ number_at (line_at text 0) 1 → keys ≡ over keys 0 (given_of room text)
  unfolding given_of over
  first_none keys h = ap (over keys 0) (missing_none (line_at text 0) 1 _ h)

  module _ {e second : ℕ} (first : Ok (e, second) ≡ number_at (line_at text 0) 1) where
    from_second : after_e room text e second ≡ listed_of room text
    unfolding listed_of
    from_second = sym (simp (found (line_at text 0) 1 first))

    given_second : given_after_e room text second ≡ given_of room text
    unfolding given_of
    given_second = sym (simp (found (line_at text 0) 1 first))

    pub second_missing : {r : Refusal} {a : Result Listed Refusal} → a ≡ Err r → Err r ≡ number_at (line_at text second) 2 → a ≡ listed_of room text
    unfolding after_e
    second_missing p h = p ∙ missing (line_at text second) 2 _ h ∙ from_second

    pub second_none : (keys : List ℕ) {r : Refusal} → Err r ≡ number_at (line_at text second) 2 → keys ≡ over keys 0 (given_of room text)
    unfolding given_after_e over
    second_none keys h = ap (over keys 0) (missing_none (line_at text second) 2 _ h ∙ given_second)

    module _ {b third : ℕ} (next : Ok (b, third) ≡ number_at (line_at text second) 2) where
      from_third : counted e b (keys_of room text third 0) ≡ listed_of room text
      unfolding after_e after_b
      from_third = sym (simp (found (line_at text second) 2 next)) ∙ from_second

      given_third : values_of room text third ≡ given_of room text
      unfolding given_after_e
      given_third = sym (simp (found (line_at text second) 2 next)) ∙ given_second

      pub keys_missing : {r : Refusal} {a : Result Listed Refusal} → a ≡ Err r → Err r ≡ keys_of room text third 0 → a ≡ listed_of room text
      keys_missing p h = p ∙ ap (counted e b) h ∙ from_third

      pub listed : {f c n : ℕ} → f ≡ e → c ≡ b → Ok n ≡ keys_of room text third 0 → Ok (record { e = f; b = c; n = n }) ≡ listed_of room text
      listed p q h = rw (p, q) (ap (counted e b) h ∙ from_third)

      pub listed_cells : (keys : List ℕ) {after : List ℕ} → after ≡ over keys 0 (values_of room text third) → after ≡ over keys 0 (given_of room text)
      listed_cells keys h = h ∙ ap (over keys 0) given_third

pub ruleset list_cases = (first_missing, first_none, second_missing, second_none, keys_missing, listed, listed_cells)
