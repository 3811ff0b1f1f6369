-- The round trips of the stored form, over any edition.
-- Assumes nothing.
use Rattle.std.specs.Prelude.{Result, Ok, Err}
use mathlib.Core.Path.{◌≡◌, refl, sym, ap, ◌∙◌}
use mathlib.Core.Bool.{true}
use mathlib.Core.List.{List, [], ◌∷◌, ◌++◌, append_assoc, append-nil}
use Prim.Native.Nat.{ℕ, zero, suc, ◌+◌, ◌-◌, ◌<◌}
use native.Mathlib.Nat.{zero-add}
use native.Mathlib.Omega.{arith}
use lib.Dec.{leb, ltb}
use lib.ListN.{length, drop, get_or, length-drop, drop_of_length-le}
use borrow.Author.Tests.{le-leb, lt-ltb, leb-true}
use Rattle.lists.proofs.Tests.{all_each, each_all, either}
use Rattle.image_little.specs.Little.{Bytes}
use Rattle.image_records.specs.Records.{kind_of, record_bytes, many_bytes, size, stands_at, fields_at, record_at, walk_of, many_at, after_of, and_then, Fit}
use Rattle.image_records.specs.Images.{Edition, layout_of, Part, Image, part_bytes, image_bytes, held_at, segment_at, part_of, parts_of, end_of, rest_of, part_at, after_part, parts_at, head_at, image_at, well_of, GoodPart, GoodParts, Good, Proper}
use Rattle.image_records.proofs.Records.{record_past, record_forth, record_stands, record_back, no_fault, many_past, many_walk, many_forth, walk_after, many_back}

-- a sequence of walks that ends: both end
pub then_past : {C : Type 0} (w : Result ℕ ℕ) (f : ℕ → Result ℕ ℕ) (z : ℕ) → and_then w f ≡ Ok z → ((m : ℕ) → w ≡ Ok m → f m ≡ Ok z → C) → C
then_past (Ok m) f z e k = k m refl e
then_past (Err p) f z e k = no_fault p z e

image_is : (ed : Edition) (v : Image) → image_bytes ed v ≡ record_bytes ed.head v.head ++ (many_bytes ed.key v.keys ++ (part_bytes ed v.parts ++ record_bytes ed.end []))
unfolding image_bytes
image_is ed v = refl

module _ (ed : Edition) (proper : Proper ed) (l : List ℕ) where
  -- ---- one segment with its buffered keys
  module _ (b : ℕ) (p : Part) (g : GoodPart ed b p) (rest : List ℕ) (at : ℕ)
      (e : drop at l ≡ record_bytes ed.segment p.numbers ++ (many_bytes ed.buffered p.held ++ rest)) where
    numbers_is : record_at ed.segment l at ≡ p.numbers
    numbers_is = record_forth ed.segment l p.numbers (many_bytes ed.buffered p.held ++ rest) at e g.fits

    held_is : held_at (layout_of ed) l at ≡ length p.held
    unfolding held_at
    held_is = proper.held_fifth l at ∙ ap (λ (xs : List ℕ). get_or xs 4 0) numbers_is ∙ g.counts

    keys_next : drop (at + size ed.segment) l ≡ many_bytes ed.buffered p.held ++ rest
    keys_next = record_past ed.segment l p.numbers (many_bytes ed.buffered p.held ++ rest) at e g.fits

    pub part_past : drop (after_part ed l at) l ≡ rest
    part_past = rw held_is (many_past ed.buffered l p.held rest (at + size ed.segment) keys_next g.fit)

    pub part_walk : part_of (layout_of ed) b l at ≡ Ok (after_part ed l at)
    unfolding part_of segment_at
    part_walk =
        let few : held_at (layout_of ed) l at < b = rw held_is g.few in
        let t : segment_at (layout_of ed) b l at ≡ true =
        each_all (stands_at (kind_of ed.segment) l at ∷ (ltb (held_at (layout_of ed) l at) b ∷ []))
        (record_stands ed.segment l p.numbers (many_bytes ed.buffered p.held ++ rest) at e g.fits, (lt-ltb _ _ few, tt)) in
        simp t (rw held_is (many_walk ed.buffered l p.held rest (at + size ed.segment) keys_next g.fit))

    pub part_forth : part_at ed l at ≡ p
    part_forth = rw (held_is, numbers_is, many_forth ed.buffered l p.held rest (at + size ed.segment) keys_next g.fit)

  pub part_back : (b at z : ℕ) → part_of (layout_of ed) b l at ≡ Ok z → Bytes l
      → drop at l ≡ record_bytes ed.segment (part_at ed l at).numbers ++ (many_bytes ed.buffered (part_at ed l at).held ++ drop z l)
  unfolding part_of segment_at
  part_back b at z e small =
      either (segment_at (layout_of ed) b l at)
      (λ t.
      let u : _ = all_each (stands_at (kind_of ed.segment) l at ∷ (ltb (held_at (layout_of ed) l at) b ∷ [])) t in
      record_back ed.segment l at u.0 small ∙
      ap (λ (r : List ℕ). record_bytes ed.segment (record_at ed.segment l at) ++ r)
      (many_back ed.buffered l (held_at (layout_of ed) l at) (at + size ed.segment) z (simp t at e) small))
      (λ t. no_fault at z (simp t at e))

  pub part_after : (b at z : ℕ) → part_of (layout_of ed) b l at ≡ Ok z → z ≡ after_part ed l at
  unfolding part_of
  part_after b at z e =
      either (segment_at (layout_of ed) b l at) (λ t. walk_after ed.buffered l (held_at (layout_of ed) l at) (at + size ed.segment) z (simp t at e))
      (λ t. no_fault at z (simp t at e))

  -- ---- all the segments
  module _ (b : ℕ) where
    pub parts_forth : (ps : List Part) → GoodParts ed b ps → (rest : List ℕ) (at : ℕ) → drop at l ≡ part_bytes ed ps ++ rest
        → {C : Type 0} → ((z : ℕ) → parts_of (layout_of ed) b l (length ps) at ≡ Ok z → drop z l ≡ rest → parts_at ed l (length ps) at ≡ ps → C) → C
    unfolding part_bytes parts_of parts_at
    parts_forth [] g rest at e k = k at refl e refl
    parts_forth (p ∷ ps) g rest at e k =
        let f : drop at l ≡ record_bytes ed.segment p.numbers ++ (many_bytes ed.buffered p.held ++ (part_bytes ed ps ++ rest)) =
        e ∙ append_assoc (record_bytes ed.segment p.numbers) (many_bytes ed.buffered p.held ++ part_bytes ed ps) rest ∙
        ap (λ (r : List ℕ). record_bytes ed.segment p.numbers ++ r) (append_assoc (many_bytes ed.buffered p.held) (part_bytes ed ps) rest) in
        let w : part_of (layout_of ed) b l at ≡ Ok (after_part ed l at) = part_walk b p g.0 (part_bytes ed ps ++ rest) at f in
        let q : part_at ed l at ≡ p = part_forth b p g.0 (part_bytes ed ps ++ rest) at f in
        parts_forth ps g.1 rest (after_part ed l at) (part_past b p g.0 (part_bytes ed ps ++ rest) at f)
        (λ z walked past same. k z (simp w walked) past (ap (λ (x : Part). x ∷ parts_at ed l (length ps) (after_part ed l at)) q ∙ ap (λ (xs : List Part). p ∷ xs) same))

    pub parts_back : (s at z : ℕ) → parts_of (layout_of ed) b l s at ≡ Ok z → Bytes l → drop at l ≡ part_bytes ed (parts_at ed l s at) ++ drop z l
    unfolding part_bytes parts_of parts_at
    parts_back zero at z e small = ap (λ (k : ℕ). drop k l) (let q : at ≡ z = cc in q)
    parts_back (suc s) at z e small =
        then_past (part_of (layout_of ed) b l at) (λ m. parts_of (layout_of ed) b l s m) z e
        (λ m here next.
        let a : m ≡ after_part ed l at = part_after b at m here in
        let n : drop m l ≡ part_bytes ed (parts_at ed l s (after_part ed l at)) ++ drop z l =
        parts_back s m z next small ∙ ap (λ (k : ℕ). part_bytes ed (parts_at ed l s k) ++ drop z l) a in
        part_back b at m here small ∙
        ap (λ (r : List ℕ). record_bytes ed.segment (part_at ed l at).numbers ++ (many_bytes ed.buffered (part_at ed l at).held ++ r)) n ∙
        sym
        (append_assoc (record_bytes ed.segment (part_at ed l at).numbers) (many_bytes ed.buffered (part_at ed l at).held ++ part_bytes ed (parts_at ed l s (after_part ed l at))) (drop z l) ∙
        ap (λ (r : List ℕ). record_bytes ed.segment (part_at ed l at).numbers ++ r)
        (append_assoc (many_bytes ed.buffered (part_at ed l at).held) (part_bytes ed (parts_at ed l s (after_part ed l at))) (drop z l))))

  -- ---- the end, and nothing after it
  no_fields : (ws : List ℕ) (at : ℕ) → Fit ws [] → fields_at ws l at ≡ []
  unfolding fields_at
  no_fields [] at h = refl
  no_fields (w ∷ ws) at h = absurd h

  pub end_forth : (at : ℕ) → drop at l ≡ record_bytes ed.end [] → end_of (layout_of ed) l at ≡ Ok (at + size ed.end)
  unfolding end_of
  end_forth at e =
      let f : drop at l ≡ record_bytes ed.end [] ++ [] = e ∙ sym (append-nil (record_bytes ed.end [])) in
      let past : drop (at + size ed.end) l ≡ [] = record_past ed.end l [] [] at f proper.end_empty in
      let n : length l - (at + size ed.end) ≡ 0 = sym (length-drop (at + size ed.end) l) ∙ ap length past in
      let t : leb (length l) (at + size ed.end) ≡ true = le-leb (length l) (at + size ed.end) (omega (arith, n)) in
      simp (record_stands ed.end l [] [] at f proper.end_empty, t)

  pub end_back : (at z : ℕ) → end_of (layout_of ed) l at ≡ Ok z → Bytes l → drop at l ≡ record_bytes ed.end []
  unfolding end_of
  end_back at z e small =
      either (stands_at (kind_of ed.end) l at)
      (λ t. either (leb (length l) (at + size ed.end))
      (λ u.
      let past : drop (at + size ed.end) l ≡ [] = drop_of_length-le l (leb-true _ _ u) in
      record_back ed.end l at t small ∙ rw (past, no_fields ed.end.widths (suc at) proper.end_empty) (append-nil (record_bytes ed.end [])))
      (λ u. no_fault (at + size ed.end) z (simp (t, u) at e)))
      (λ t. no_fault at z (simp t at e))

-- ---- the whole
module _ (ed : Edition) (proper : Proper ed) where
  -- what was written is read
  module _ (v : Image) (g : Good ed v) {C : Type 0} where
    pub read_written : ((z : ℕ) → well_of ed (image_bytes ed v) ≡ Ok z → image_at ed (image_bytes ed v) ≡ v → C) → C
    unfolding well_of image_at rest_of
    read_written k =
        let l : List ℕ = image_bytes ed v in
        let keys : List ℕ = many_bytes ed.key v.keys in
        let parts : List ℕ = part_bytes ed v.parts in
        let e : drop 0 l ≡ record_bytes ed.head v.head ++ (keys ++ (parts ++ record_bytes ed.end [])) = image_is ed v in
        let head : head_at ed l ≡ v.head = record_forth ed.head l v.head (keys ++ (parts ++ record_bytes ed.end [])) 0 e g.head_fits in
        let stands : stands_at (kind_of ed.head) l 0 ≡ true = record_stands ed.head l v.head (keys ++ (parts ++ record_bytes ed.end [])) 0 e g.head_fits in
        let e1 : drop (size ed.head) l ≡ keys ++ (parts ++ record_bytes ed.end []) =
        rw zero-add at (record_past ed.head l v.head (keys ++ (parts ++ record_bytes ed.end [])) 0 e g.head_fits) in
        let n : get_or (head_at ed l) 2 0 ≡ length v.keys = ap (λ (xs : List ℕ). get_or xs 2 0) head ∙ g.keys_count in
        let s : get_or (head_at ed l) 3 0 ≡ length v.parts = ap (λ (xs : List ℕ). get_or xs 3 0) head ∙ g.parts_count in
        let b : get_or (head_at ed l) 1 0 ≡ get_or v.head 1 0 = ap (λ (xs : List ℕ). get_or xs 1 0) head in
        let walked : walk_of (kind_of ed.key) l (length v.keys) (size ed.head) ≡ Ok (after_of (kind_of ed.key) (length v.keys) (size ed.head)) =
        many_walk ed.key l v.keys (parts ++ record_bytes ed.end []) (size ed.head) e1 g.keys_fit in
        let same : many_at ed.key.widths l (length v.keys) (size ed.head) ≡ v.keys =
        many_forth ed.key l v.keys (parts ++ record_bytes ed.end []) (size ed.head) e1 g.keys_fit in
        parts_forth ed proper l (get_or v.head 1 0) v.parts g.parts_good (record_bytes ed.end []) (after_of (kind_of ed.key) (length v.keys) (size ed.head))
        (many_past ed.key l v.keys (parts ++ record_bytes ed.end []) (size ed.head) e1 g.keys_fit)
        (λ z done past parts_same.
        k (z + size ed.end) (simp (stands, n, s, b, walked, done, end_forth ed proper l z past)) (simp (head, g.keys_count, g.parts_count, same, parts_same)))

  -- what is read is written back, byte for byte
  pub written_read : (l : List ℕ) (z : ℕ) → Bytes l → well_of ed l ≡ Ok z → image_bytes ed (image_at ed l) ≡ l
  unfolding well_of image_at rest_of
  written_read l z small e =
      either (stands_at (kind_of ed.head) l 0)
      (λ t.
      let n : ℕ = get_or (head_at ed l) 2 0 in
      let s : ℕ = get_or (head_at ed l) 3 0 in
      let b : ℕ = get_or (head_at ed l) 1 0 in
      let e1 : rest_of (layout_of ed) l b n s (size ed.head) ≡ Ok z = simp t at e in
      then_past (walk_of (kind_of ed.key) l n (size ed.head)) (λ m. and_then (parts_of (layout_of ed) b l s m) (λ q. end_of (layout_of ed) l q)) z e1
      (λ m walked next. then_past (parts_of (layout_of ed) b l s m) (λ q. end_of (layout_of ed) l q) z next
      (λ q done last.
      let a : m ≡ after_of (kind_of ed.key) n (size ed.head) = walk_after ed.key l n (size ed.head) m walked in
      let f3 : drop q l ≡ record_bytes ed.end [] = end_back ed proper l q z last small in
      let f2 : drop m l ≡ part_bytes ed (parts_at ed l s (after_of (kind_of ed.key) n (size ed.head))) ++ record_bytes ed.end [] =
      parts_back ed proper l b s m q done small ∙ rw (a, f3) in
      let f1 : drop (size ed.head) l ≡ many_bytes ed.key (many_at ed.key.widths l n (size ed.head)) ++ drop m l = many_back ed.key l n (size ed.head) m walked small in
      let f0 : drop 0 l ≡ record_bytes ed.head (head_at ed l) ++ drop (0 + size ed.head) l = record_back ed.head l 0 t small in
      image_is ed (image_at ed l) ∙ sym (f0 ∙ rw (zero-add, f1, f2)))))
      (λ t. no_fault 0 z (simp t at e))
