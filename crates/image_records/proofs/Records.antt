-- One record, and a row of records of one shape: read what was written (`-forth`), write what was read (`-back`). Over any widths.
-- Every law is about the bytes from an offset on, `drop at l ≡ written ++ rest`, so that laws chain with no length of what stands before.
-- Assumes nothing.
use Rattle.std.specs.Prelude.{Ok, Err}
use mathlib.Core.Path.{◌≡◌, refl, sym, ap, ◌∙◌}
use mathlib.Core.Bool.{Bool, true, false}
use mathlib.Core.List.{List, [], ◌∷◌, ◌++◌, append_assoc}
use Prim.Native.Nat.{ℕ, zero, suc, ◌+◌, ◌-◌, ◌^◌, ◌≤◌}
use native.Mathlib.Nat.{add-zero}
use native.Mathlib.Numerals.{add-one}
use native.Mathlib.Omega.{arith}
use lib.Dec.{leb, ltb, eqb}
use lib.ListN.{length, drop, get_or, length-append, length-drop}
use lib.Seq.{drop-cons}
use borrow.Author.Tests.{le-leb, eq-eqb, leb-true, eqb-true, ltb-true, lt-ltb}
use Rattle.lists.proofs.Tests.{all_each, each_all, either, clash, is_false, both_true, true_both}
use Rattle.lists.proofs.Lists.{drop_head, drop_past}
use Rattle.image_little.specs.Little.{number_bytes, get_at, Bytes}
use Rattle.image_little.proofs.Round.{number_length, number_forth, number_back, number_small}
use Rattle.image_records.specs.Records.{Shape, kind_of, field_bytes, record_bytes, many_bytes, total, size, Stands, stands_at, fields_at, record_at, walk_of, many_at, after_of, fits_of, Fit, FitAll}
use Rattle.image_records.specs.declared.Kind.{Kind}

-- ---- the tests as facts

module _ (k : Kind) (bytes : List ℕ) (at : ℕ) where
  abbrev tests : List Bool
  tests = leb (at + k.size) (length bytes) ∷ (eqb (get_or bytes at 0) k.kind ∷ [])

  pub stands_true : stands_at k bytes at ≡ true → Stands k bytes at
  unfolding stands_at
  stands_true h = let t : _ = all_each tests h in record { inside = leb-true _ _ t.0; right = eqb-true _ _ t.1.0 }

  pub true_stands : Stands k bytes at → stands_at k bytes at ≡ true
  unfolding stands_at
  true_stands h = each_all tests (le-leb _ _ h.inside, (eq-eqb _ _ h.right, tt))

  -- as the code answers
  pub stands_yes : Stands k bytes at → true ≡ stands_at k bytes at
  stands_yes h = sym (true_stands h)

  pub stands_no : (Stands k bytes at → ⊥) → false ≡ stands_at k bytes at
  stands_no h = sym (is_false (stands_at k bytes at) (λ e. h (stands_true e)))

  pub stands_of : {r : Bool} → r ≡ stands_at k bytes at → r ≡ true → Stands k bytes at
  stands_of p q = stands_true (sym p ∙ q)

pub fits_fit : (ws xs : List ℕ) → fits_of ws xs ≡ true → Fit ws xs
unfolding fits_of
fits_fit [] [] h = tt
fits_fit [] (x ∷ xs) h = clash (sym h)
fits_fit (w ∷ ws) [] h = clash (sym h)
fits_fit (w ∷ ws) (x ∷ xs) h =
    let t : (ltb x (256 ^ w) ≡ true) × (fits_of ws xs ≡ true) = both_true (ltb x (256 ^ w)) (fits_of ws xs) h in
    (ltb-true x (256 ^ w) t.0, fits_fit ws xs t.1)

pub fit_fits : (ws xs : List ℕ) → Fit ws xs → fits_of ws xs ≡ true
unfolding fits_of
fit_fits [] [] h = refl
fit_fits [] (x ∷ xs) h = absurd h
fit_fits (w ∷ ws) [] h = absurd h
fit_fits (w ∷ ws) (x ∷ xs) h = true_both (ltb x (256 ^ w)) (fits_of ws xs) (lt-ltb x (256 ^ w) h.0) (fit_fits ws xs h.1)

pub fit_length : (ws xs : List ℕ) → Fit ws xs → length xs ≡ length ws
fit_length [] [] h = refl
fit_length [] (x ∷ xs) h = absurd h
fit_length (w ∷ ws) [] h = absurd h
fit_length (w ∷ ws) (x ∷ xs) h = ap suc (fit_length ws xs h.1)

-- ---- the numbers of a record
pub fields_length : (ws xs : List ℕ) → Fit ws xs → length (field_bytes ws xs) ≡ total ws
unfolding field_bytes total
fields_length [] xs h = refl
fields_length (w ∷ ws) [] h = absurd h
fields_length (w ∷ ws) (x ∷ xs) h = length-append (number_bytes w x) (field_bytes ws xs) ∙ rw (number_length w x, fields_length ws xs h.1)

pub fields_forth : (ws xs l rest : List ℕ) (at : ℕ) → drop at l ≡ field_bytes ws xs ++ rest → Fit ws xs → fields_at ws l at ≡ xs
unfolding field_bytes fields_at
fields_forth [] [] l rest at e h = refl
fields_forth [] (x ∷ xs) l rest at e h = absurd h
fields_forth (w ∷ ws) [] l rest at e h = absurd h
fields_forth (w ∷ ws) (x ∷ xs) l rest at e h =
    let f : drop at l ≡ number_bytes w x ++ (field_bytes ws xs ++ rest) = e ∙ append_assoc (number_bytes w x) (field_bytes ws xs) rest in
    rw (number_forth w x l (field_bytes ws xs ++ rest) at f h.0, fields_forth ws xs l rest (at + w) (drop_past l (number_bytes w x) (field_bytes ws xs ++ rest) at w f (number_length w x)) h.1)

pub fields_back : (ws l : List ℕ) (at : ℕ) → at + total ws ≤ length l → Bytes l → drop at l ≡ field_bytes ws (fields_at ws l at) ++ drop (at + total ws) l
unfolding field_bytes fields_at total
fields_back [] l at h small = rw add-zero
fields_back (w ∷ ws) l at h small =
    let next : drop (at + w) l ≡ field_bytes ws (fields_at ws l (at + w)) ++ drop (at + w + total ws) l = fields_back ws l (at + w) (omega arith) small in
    let s : at + w + total ws ≡ at + (w + total ws) = omega arith in
    number_back w l at (omega arith) small ∙ ap (λ (r : List ℕ). number_bytes w (get_at l at w) ++ r) (rw s at next) ∙
    sym (append_assoc (number_bytes w (get_at l at w)) (field_bytes ws (fields_at ws l (at + w))) (drop (at + (w + total ws)) l))

-- ---- a record
module _ (sh : Shape) (l : List ℕ) where
  pub record_length : (xs : List ℕ) → Fit sh.widths xs → length (record_bytes sh xs) ≡ size sh
  unfolding record_bytes
  record_length xs h = ap suc (fields_length sh.widths xs h)

  module _ (xs rest : List ℕ) (at : ℕ) (e : drop at l ≡ record_bytes sh xs ++ rest) (h : Fit sh.widths xs) where
    pub record_past : drop (at + size sh) l ≡ rest
    record_past = drop_past l (record_bytes sh xs) rest at (size sh) e (record_length xs h)

    pub record_forth : record_at sh l at ≡ xs
    unfolding record_bytes
    record_forth =
        let next : drop (at + 1) l ≡ field_bytes sh.widths xs ++ rest = drop_past l (sh.kind ∷ []) (field_bytes sh.widths xs ++ rest) at 1 e refl in
        fields_forth sh.widths xs l rest (suc at) (rw add-one at next) h

    pub record_stands : stands_at (kind_of sh) l at ≡ true
    unfolding stands_at record_bytes
    record_stands =
        let n : length l - at ≡ size sh + length rest =
        sym (length-drop at l) ∙ ap length e ∙ length-append (record_bytes sh xs) rest ∙ ap (λ (k : ℕ). k + length rest) (record_length xs h) in
        let k : get_or l at 0 ≡ sh.kind = drop_head l at sh.kind (field_bytes sh.widths xs ++ rest) 0 e in
        let m : at + size sh ≤ length l = omega (arith, n) in
        each_all (leb (at + size sh) (length l) ∷ (eqb (get_or l at 0) sh.kind ∷ [])) (le-leb _ _ m, (eq-eqb _ _ k, tt))

  pub record_back : (at : ℕ) → stands_at (kind_of sh) l at ≡ true → Bytes l → drop at l ≡ record_bytes sh (record_at sh l at) ++ drop (at + size sh) l
  unfolding stands_at record_bytes
  record_back at h small =
      let t : _ = all_each (leb (at + size sh) (length l) ∷ (eqb (get_or l at 0) sh.kind ∷ [])) h in
      let n : at + size sh ≤ length l = leb-true _ _ t.0 in
      let k : get_or l at 0 ≡ sh.kind = eqb-true _ _ t.1.0 in
      let body : drop (suc at) l ≡ field_bytes sh.widths (record_at sh l at) ++ drop (suc at + total sh.widths) l =
      fields_back sh.widths l (suc at) (omega arith) small in
      let s : suc at + total sh.widths ≡ at + size sh = omega arith in
      drop-cons l at 0 (omega arith) ∙ rw k (ap (λ (r : List ℕ). sh.kind ∷ r) (rw s at body))

pub no_fault : {C : Type 0} (p z : ℕ) → Err p ≡ Ok z → C
no_fault p z e = absurd (let q : ◌≡◌ {A = ℕ} 0 1 = cc in omega arith)

-- ---- a row of records of one shape
module _ (sh : Shape) (l : List ℕ) where
  pub many_past : (rs : List (List ℕ)) (rest : List ℕ) (at : ℕ) → drop at l ≡ many_bytes sh rs ++ rest → FitAll sh.widths rs
      → drop (after_of (kind_of sh) (length rs) at) l ≡ rest
  unfolding many_bytes after_of
  many_past [] rest at e h = e
  many_past (r ∷ rs) rest at e h =
      many_past rs rest (at + size sh)
      (record_past sh l r (many_bytes sh rs ++ rest) at (e ∙ append_assoc (record_bytes sh r) (many_bytes sh rs) rest) h.0) h.1

  pub many_walk : (rs : List (List ℕ)) (rest : List ℕ) (at : ℕ) → drop at l ≡ many_bytes sh rs ++ rest → FitAll sh.widths rs
      → walk_of (kind_of sh) l (length rs) at ≡ Ok (after_of (kind_of sh) (length rs) at)
  unfolding many_bytes after_of walk_of
  many_walk [] rest at e h = refl
  many_walk (r ∷ rs) rest at e h =
      let f : drop at l ≡ record_bytes sh r ++ (many_bytes sh rs ++ rest) = e ∙ append_assoc (record_bytes sh r) (many_bytes sh rs) rest in
      simp (record_stands sh l r (many_bytes sh rs ++ rest) at f h.0)
      (many_walk rs rest (at + size sh) (record_past sh l r (many_bytes sh rs ++ rest) at f h.0) h.1)

  pub many_forth : (rs : List (List ℕ)) (rest : List ℕ) (at : ℕ) → drop at l ≡ many_bytes sh rs ++ rest → FitAll sh.widths rs
      → many_at sh.widths l (length rs) at ≡ rs
  unfolding many_bytes many_at
  many_forth [] rest at e h = refl
  many_forth (r ∷ rs) rest at e h =
      let f : drop at l ≡ record_bytes sh r ++ (many_bytes sh rs ++ rest) = e ∙ append_assoc (record_bytes sh r) (many_bytes sh rs) rest in
      rw (
        record_forth sh l r (many_bytes sh rs ++ rest) at f h.0,
        many_forth rs rest (at + size sh) (record_past sh l r (many_bytes sh rs ++ rest) at f h.0) h.1,
      )

  -- a walk that ends ends after the records
  pub walk_after : (count at z : ℕ) → walk_of (kind_of sh) l count at ≡ Ok z → z ≡ after_of (kind_of sh) count at
  unfolding walk_of after_of
  walk_after zero at z e = cc
  walk_after (suc count) at z e =
      either (stands_at (kind_of sh) l at) (λ t. walk_after count (at + size sh) z (simp t at e)) (λ t. no_fault at z (simp t at e))

  pub many_back : (count at z : ℕ) → walk_of (kind_of sh) l count at ≡ Ok z → Bytes l → drop at l ≡ many_bytes sh (many_at sh.widths l count at) ++ drop z l
  unfolding walk_of many_bytes many_at
  many_back zero at z e small = ap (λ (k : ℕ). drop k l) (let q : at ≡ z = cc in q)
  many_back (suc count) at z e small =
      either (stands_at (kind_of sh) l at)
      (λ t. record_back sh l at t small ∙ ap (λ (r : List ℕ). record_bytes sh (record_at sh l at) ++ r) (many_back count (at + size sh) z (simp t at e) small) ∙
      sym (append_assoc (record_bytes sh (record_at sh l at)) (many_bytes sh (many_at sh.widths l count (at + size sh))) (drop z l)))
      (λ t. no_fault at z (simp t at e))

-- ---- what is read fits

module _ (l : List ℕ) (small : Bytes l) where
  pub fields_fit : (ws : List ℕ) (at : ℕ) → Fit ws (fields_at ws l at)
  unfolding fields_at
  fields_fit [] at = tt
  fields_fit (w ∷ ws) at = (number_small l small at w, fields_fit ws (at + w))

  pub many_fit : (ws : List ℕ) (count at : ℕ) → FitAll ws (many_at ws l count at)
  unfolding many_at
  many_fit ws zero at = tt
  many_fit ws (suc count) at = (fields_fit ws (suc at), many_fit ws count (at + suc (total ws)))

pub many_length : (l ws : List ℕ) (count at : ℕ) → length (many_at ws l count at) ≡ count
unfolding many_at
many_length l ws zero at = refl
many_length l ws (suc count) at = ap suc (many_length l ws count (at + suc (total ws)))
