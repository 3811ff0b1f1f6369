-- What is read can be written: an image that the reader accepts is good.
-- Assumes nothing.
use Rattle.std.specs.Prelude.{Ok}
use mathlib.Core.Path.{◌≡◌, refl, sym, ap, ◌∙◌}
use mathlib.Core.List.{List}
use Prim.Native.Nat.{ℕ, zero, suc, ◌+◌}
use lib.ListN.{length, get_or}
use Rattle.lists.proofs.Tests.{either}
use Rattle.image_little.specs.Little.{Bytes}
use Rattle.image_records.specs.Records.{kind_of, size, stands_at, record_at, walk_of, many_at, after_of, and_then}
use Rattle.image_records.specs.Images.{Edition, layout_of, held_at, part_of, parts_of, end_of, rest_of, part_at, after_part, parts_at, head_at, image_at, well_of, GoodPart, GoodParts, Good, Proper}
use Rattle.image_records.proofs.Records.{no_fault, walk_after, fields_fit, many_fit, many_length}
use Rattle.image_records.proofs.Images.{then_past, part_after}
use Rattle.image_records.proofs.Inside.{part_few}

module _ (l : List ℕ) (small : Bytes l) where
  module _ (ed : Edition) (proper : Proper ed) where
    held_is : (at : ℕ) → held_at (layout_of ed) l at ≡ get_or (record_at ed.segment l at) 4 0
    unfolding held_at
    held_is at = proper.held_fifth l at

    pub part_good : (b at z : ℕ) → part_of (layout_of ed) b l at ≡ Ok z → GoodPart ed b (part_at ed l at)
    part_good b at z e =
        let n : length (many_at ed.buffered.widths l (held_at (layout_of ed) l at) (at + size ed.segment)) ≡ held_at (layout_of ed) l at =
        many_length l ed.buffered.widths (held_at (layout_of ed) l at) (at + size ed.segment) in
        record {
          fits = fields_fit l small ed.segment.widths (suc at);
          fit = many_fit l small ed.buffered.widths (held_at (layout_of ed) l at) (at + size ed.segment);
          counts = sym (held_is at) ∙ sym n;
          few = rw n (part_few (layout_of ed) b l at z e);
        }

    pub parts_good : (b s at z : ℕ) → parts_of (layout_of ed) b l s at ≡ Ok z → GoodParts ed b (parts_at ed l s at)
    unfolding parts_of parts_at
    parts_good b zero at z e = tt
    parts_good b (suc s) at z e =
        then_past (part_of (layout_of ed) b l at) (λ m. parts_of (layout_of ed) b l s m) z e
        (λ m here next.
        let a : m ≡ after_part ed l at = part_after ed proper l b at m here in
        (part_good b at m here, parts_good b s (after_part ed l at) z (rw a at next)))

    pub parts_length : (s at : ℕ) → length (parts_at ed l s at) ≡ s
    unfolding parts_at
    parts_length zero at = refl
    parts_length (suc s) at = ap suc (parts_length s (after_part ed l at))

    pub read_good : (z : ℕ) → well_of ed l ≡ Ok z → Good ed (image_at ed l)
    unfolding well_of image_at rest_of
    read_good z e =
        either (stands_at (kind_of ed.head) l 0)
        (λ t.
        let n : ℕ = get_or (head_at ed l) 2 0 in
        let s : ℕ = get_or (head_at ed l) 3 0 in
        let b : ℕ = get_or (head_at ed l) 1 0 in
        let e1 : rest_of (layout_of ed) l b n s (size ed.head) ≡ Ok z = simp t at e in
        then_past (walk_of (kind_of ed.key) l n (size ed.head)) (λ m. and_then (parts_of (layout_of ed) b l s m) (λ q. end_of (layout_of ed) l q)) z e1
        (λ m walked next. then_past (parts_of (layout_of ed) b l s m) (λ q. end_of (layout_of ed) l q) z next
        (λ q done last.
        let a : m ≡ after_of (kind_of ed.key) n (size ed.head) = walk_after ed.key l n (size ed.head) m walked in
        record {
          head_fits = fields_fit l small ed.head.widths 1;
          keys_fit = many_fit l small ed.key.widths n (size ed.head);
          keys_count = sym (many_length l ed.key.widths n (size ed.head));
          parts_good = parts_good b s (after_of (kind_of ed.key) n (size ed.head)) q (rw a at done);
          parts_count = sym (parts_length s (after_of (kind_of ed.key) n (size ed.head)));
        })))
        (λ t. no_fault 0 z (simp t at e))
