-- The cells of a list of segments, and a table that is filled with them row by row.
-- Assumes nothing.
use mathlib.Core.Path.{◌≡◌, refl, sym, ap, ◌∙◌}
use mathlib.Core.List.{List, [], ◌∷◌, ◌++◌}
use Prim.Native.Nat.{ℕ, suc, ◌+◌, ◌*◌, ◌≤◌}
use native.Mathlib.Omega.{arith}
use lib.ListN.{length, take, drop, length-append, length-drop}
use lib.Seq.{sets, sets-eq, take-add, take_at, drop_at, drop-drop, length-take-le, take_all}
use Rattle.cone.specs.Rule.{Segment}
use Rattle.cutting.specs.Rows.{row_of, rows_of}

pub rows_one : (from : ℕ) (x : Segment) → rows_of from (x ∷ []) ≡ row_of from x
unfolding rows_of
rows_one from x = refl

pub rows_length : (from : ℕ) (l : List Segment) → length (rows_of from l) ≡ 5 * length l
unfolding rows_of
rows_length from [] = refl
rows_length from (x ∷ xs) = omega (arith, rows_length from xs)

pub rows_append : (from : ℕ) (a b : List Segment) → rows_of from (a ++ b) ≡ rows_of from a ++ rows_of from b
unfolding rows_of
rows_append from [] b = refl
rows_append from (x ∷ xs) b = rw (rows_append from xs b)

-- the table t, with the rows of the first n segments at its start
pub Filled : ℕ → List Segment → List ℕ → ℕ → List ℕ
Filled from l t n = rows_of from (take n l) ++ drop (5 * n) t

pub filled_none : (from : ℕ) (l : List Segment) (t : List ℕ) → t ≡ Filled from l t 0
unfolding Filled rows_of
filled_none from l t = refl

pub filled_all : (from : ℕ) (l : List Segment) (t : List ℕ) (n : ℕ) → length l ≡ n → Filled from l t n ≡ rows_of from l ++ drop (5 * n) t
unfolding Filled
filled_all from l t n q = rw (take_all n l (omega arith))

module _
    (from : ℕ) (l : List Segment) (t : List ℕ) (n : ℕ) (x : Segment) (rest : List Segment) (q : drop n l ≡ x ∷ rest) (room : 5 * length l ≤ length t) where
  here : n + suc (length rest) ≡ length l
  here = omega (arith, simp length-drop at (ap length q))

  known : length (rows_of from (take n l)) ≡ 5 * n
  known = rows_length from (take n l) ∙ ap (λ (k : ℕ). 5 * k) (length-take-le n l (omega (arith, here)))

  more : take (n + 1) l ≡ take n l ++ (x ∷ [])
  more = take-add n 1 l ∙ ap (λ (d : List Segment). take n l ++ take 1 d) q

  -- one row more
  pub fill : sets (Filled from l t n) (5 * n) (row_of from x) ≡ Filled from l t (n + 1)
  unfolding Filled
  fill =
      let p = rows_of from (take n l) in
      let d = drop (5 * n) t in
      let step : 5 * (n + 1) ≡ 5 * n + 5 = omega arith in
      sets-eq (row_of from x) (p ++ d) (5 * n) (simp (length-append, known, length-drop) (omega (arith, here)))
      ∙ ap (λ (a : List ℕ). a ++ row_of from x ++ drop (5 * n + 5) (p ++ d)) (take_at p d (5 * n) known)
      ∙ ap (λ (a : List ℕ). p ++ row_of from x ++ a) (sym (drop-drop 5 (5 * n) (p ++ d)) ∙ ap (λ (a : List ℕ). drop 5 a) (drop_at p d (5 * n) known) ∙ drop-drop 5 (5 * n) t)
      ∙ sym (rw (more, rows_append from (take n l) (x ∷ []), rows_one from x, step))
