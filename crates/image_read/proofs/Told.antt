-- What a well-formed image tells: its counts are within their limits, its head says them, and its records stand where the filling pass goes.
-- Assumes nothing.
use Rattle.std.specs.Prelude.{Result, Ok, Err}
use mathlib.Core.Path.{◌≡◌, refl, sym, ◌∙◌}
use mathlib.Core.Bool.{true}
use mathlib.Core.List.{List}
use Prim.Native.Nat.{ℕ, ◌+◌, ◌*◌, ◌≤◌}
use native.Mathlib.Omega.{arith}
use lib.ListN.{length}
use Rattle.terms.specs.declared.Sizes.{Sizes}
use Rattle.terms.specs.declared.Refusal.{Refusal}
use Rattle.terms.specs.declared.Refusal.TheVariants.{Limits, Malformed}
use Rattle.lists.proofs.Tests.{either}
use Rattle.table.specs.Limits.{Counted, counted_of}
use Rattle.table.proofs.Limits.{counted_true}
use Rattle.image_records.specs.Records.{total, fields_at, stands_at, kind_of, walk_of, and_then}
use Rattle.image_records.specs.Images.{layout_of, parts_of, end_of, rest_of, image_at, well_of}
use Rattle.image_records.specs.First.{first}
use Rattle.image_records.specs.Stores.{head_sizes}
use Rattle.image_records.proofs.Records.{walk_after, stands_true}
use Rattle.image_records.proofs.Images.{then_past}
use Rattle.image_records.proofs.Inside.{walk_inside}
use Rattle.image_judge.specs.Judging.{sizes_at, answer_of, headed_of, judged_of}
use Rattle.image_fill.proofs.Laws.{after_is}

pub record Told (l : List ℕ) (z : Sizes) : Type 0 where
  pub is : z ≡ sizes_at l
  pub counted : Counted z.e z.b z.n z.s
  pub head : stands_at (kind_of first.head) l 0 ≡ true
  pub last : ℕ
  pub walked : rest_of (layout_of first) l z.b z.n z.s 9 ≡ Ok last
  pub run : 9 + 7 * z.n ≤ length l
  pub end : ℕ
  pub judged : parts_of (layout_of first) z.b l z.s (9 + 7 * z.n) ≡ Ok end

pub not_both : {C : Type 0} (r : Refusal) (z : Sizes) → Err r ≡ Ok z → C
not_both r z q = absurd (let z : ◌≡◌ {A = ℕ} 0 1 = cc in omega arith)

module _ (l : List ℕ) (z : Sizes) (is : z ≡ sizes_at l) (head : stands_at (kind_of first.head) l 0 ≡ true) where
  rest_told : (last : ℕ) → Counted z.e z.b z.n z.s → rest_of (layout_of first) l z.b z.n z.s 9 ≡ Ok last → Told l z
  unfolding rest_of total
  rest_told last c q =
      then_past (walk_of (kind_of first.key) l z.n 9) (λ m. and_then (parts_of (layout_of first) z.b l z.s m) (λ y. end_of (layout_of first) l y)) last q
      (λ m walked next. then_past (parts_of (layout_of first) z.b l z.s m) (λ y. end_of (layout_of first) l y) last next
      (λ y done _.
      let h : 9 ≤ length l = (stands_true (kind_of first.head) l 0 head).inside in
      let a : m ≡ 9 + 7 * z.n = walk_after first.key l z.n 9 m walked ∙ after_is 2 z.n 9 in
      let i : m ≤ length l = walk_inside (kind_of first.key) l z.n 9 m h walked in
      record { is = is; counted = c; head = head; last = last; walked = q; run = rw a at i; end = y; judged = rw a at done }))

  answer_told : (w : Result ℕ ℕ) (z' : Sizes) → Counted z.e z.b z.n z.s → w ≡ rest_of (layout_of first) l z.b z.n z.s 9 → answer_of z w ≡ Ok z' → Told l z'
  answer_told (Ok m) z' c p q = let e : z ≡ z' = cc in rw e at (rest_told m c (sym p))
  answer_told (Err f) z' c p q = not_both (Malformed f) z' q

  headed_told : (z' : Sizes) → headed_of (layout_of first) l z ≡ Ok z' → Told l z'
  unfolding headed_of total
  headed_told z' q =
      either (counted_of z.e z.b z.n z.s)
      (λ t. answer_told (rest_of (layout_of first) l z.b z.n z.s 9) z' (counted_true z.e z.b z.n z.s t) refl (simp t at q))
      (λ t. not_both Limits z' (simp t at q))

pub well_told : (l : List ℕ) (z : Sizes) → judged_of (layout_of first) l ≡ Ok z → Told l z
unfolding judged_of
well_told l z q =
    either (stands_at (kind_of first.head) l 0) (λ t. headed_told l (sizes_at l) refl t z (simp t at q)) (λ t. not_both (Malformed 0) z (simp t at q))

-- so the bytes are an image as the form has it, and its head says the counts
module _ (l : List ℕ) (z : Sizes) (w : Told l z) where
  pub told_well : well_of first l ≡ Ok w.last
  unfolding well_of fields_at total
  told_well = simp w.head (rw w.is at w.walked)

  pub told_head : z ≡ head_sizes (image_at first l)
  unfolding image_at fields_at
  told_head = w.is
