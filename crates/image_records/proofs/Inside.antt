-- What a walk along the records that came past them tells: it ended inside the bytes, and each segment holds fewer than B.
-- Assumes nothing.
use Rattle.std.specs.Prelude.{Ok}
use mathlib.Core.Path.{◌≡◌}
use mathlib.Core.Bool.{true}
use mathlib.Core.List.{List, [], ◌∷◌}
use Prim.Native.Nat.{ℕ, zero, suc, ◌+◌, ◌≤◌, ◌<◌}
use native.Mathlib.Omega.{arith}
use lib.Dec.{ltb}
use lib.ListN.{length}
use borrow.Author.Tests.{ltb-true}
use Rattle.lists.proofs.Tests.{all_each, either}
use Rattle.image_records.specs.Records.{stands_at, walk_of}
use Rattle.image_records.specs.Images.{held_at, segment_at, part_of, parts_of}
use Rattle.image_records.specs.declared.Kind.{Kind}
use Rattle.image_records.specs.declared.Layout.{Layout}
use Rattle.image_records.proofs.Records.{no_fault, stands_true}
use Rattle.image_records.proofs.Images.{then_past}

pub walk_inside : (k : Kind) (l : List ℕ) (count at z : ℕ) → at ≤ length l → walk_of k l count at ≡ Ok z → z ≤ length l
unfolding walk_of
walk_inside k l zero at z h e = let q : at ≡ z = cc in omega arith
walk_inside k l (suc count) at z h e =
    either (stands_at k l at) (λ t. walk_inside k l count (at + k.size) z (stands_true k l at t).inside (simp t at e)) (λ t. no_fault at z (simp t at e))

segment_stands : (f : Layout) (b : ℕ) (l : List ℕ) (at : ℕ) → segment_at f b l at ≡ true → stands_at f.segment l at ≡ true
unfolding segment_at
segment_stands f b l at t = (all_each (stands_at f.segment l at ∷ (ltb (held_at f l at) b ∷ [])) t).0

-- a segment that was walked along holds fewer than B
pub part_few : (f : Layout) (b : ℕ) (l : List ℕ) (at z : ℕ) → part_of f b l at ≡ Ok z → held_at f l at < b
unfolding part_of segment_at
part_few f b l at z e =
    either (segment_at f b l at) (λ t. ltb-true _ _ (all_each (stands_at f.segment l at ∷ (ltb (held_at f l at) b ∷ [])) t).1.0) (λ t. no_fault at z (simp t at e))

pub part_inside : (f : Layout) (b : ℕ) (l : List ℕ) (at z : ℕ) → part_of f b l at ≡ Ok z → z ≤ length l
unfolding part_of
part_inside f b l at z e =
    either (segment_at f b l at)
    (λ t. walk_inside f.buffered l (held_at f l at) (at + f.segment.size) z (stands_true f.segment l at (segment_stands f b l at t)).inside (simp t at e))
    (λ t. no_fault at z (simp t at e))

pub parts_inside : (f : Layout) (b : ℕ) (l : List ℕ) (s at z : ℕ) → at ≤ length l → parts_of f b l s at ≡ Ok z → z ≤ length l
unfolding parts_of
parts_inside f b l zero at z h e = let q : at ≡ z = cc in omega arith
parts_inside f b l (suc s) at z h e =
    then_past (part_of f b l at) (λ m. parts_of f b l s m) z e (λ m here next. parts_inside f b l s m z (part_inside f b l at m here) next)
