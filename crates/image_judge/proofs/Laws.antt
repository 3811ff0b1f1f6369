-- The cases of the judging functions.
-- Assumes nothing.
use Rattle.std.specs.Prelude.{Result, Ok, Err}
use Rattle.std.specs.Result.{is_ok, IsErrAnd, MatchResult}
use Rattle.terms.specs.declared.Refusal.{Refusal}
use mathlib.Core.Path.{◌≡◌, refl, sym, ap, ◌∙◌}
use mathlib.Core.Bool.{Bool, true, false}
use mathlib.Core.List.{List}
use Prim.Native.Nat.{ℕ, suc, ◌+◌, ◌-◌, ◌*◌, ◌^◌, ◌≤◌, ◌<◌}
use native.Mathlib.Omega.{arith}
use lib.ListN.{length, get_or}
use lib.Dec.{lit<, lit≤, leb, eqb}
use mir.Syntax.{w64}
use mir.Val.{Fits}
use borrow.Author.Tests.{le-leb, lt-leb, lt-ltb, le-ltb, eqb-true, eq-eqb}
use Rattle.lists.specs.Over.{Space}
use Rattle.lists.specs.Tests.{all}
use Rattle.lists.proofs.Tests.{same_test, clash}
use Rattle.terms.specs.declared.Sizes.{Sizes}
use Rattle.table.specs.Limits.{counted_of}
use Rattle.terms.specs.declared.Refusal.TheVariants.{Limits, Malformed}
use Rattle.image_little.specs.Little.{get_at}
use Rattle.image_records.specs.declared.Kind.{Kind}
use Rattle.image_records.specs.declared.Layout.{Layout}
use Rattle.image_records.specs.Records.{total, stands_at, walk_of, Stands}
use Rattle.image_records.specs.Images.{held_at, segment_at, part_of, parts_of, end_of, rest_of, layout_of}
use Rattle.image_records.specs.First.{first}
use Rattle.image_records.proofs.Records.{stands_of, stands_yes, stands_no}
use Rattle.image_records.proofs.Inside.{walk_inside, part_inside, parts_inside}
use Rattle.image_judge.specs.Judging.{sizes_at, answer_of, headed_of, judged_of}
use Rattle.image_judge.specs.Asks.{Ready, Readable, Laid}

-- ---- stands
module _ (k : Kind) (l : List ℕ) (at : ℕ) (ready : Ready k l at) where
  pub stands_whole : k.size ≤ length l - at → eqb (get_or l at 0) k.kind ≡ stands_at k l at
  stands_whole h =
      same_test (eqb (get_or l at 0) k.kind) (stands_at k l at)
      (λ t. sym (stands_yes k l at (record { inside = omega (arith, ready.inside); right = eqb-true _ _ t })))
      (λ t. eq-eqb _ _ (stands_of k l at (λ i. stands_at k l at) t).right)

  pub stands_short : length l - at < k.size → leb k.size (length l - at) ≡ stands_at k l at
  stands_short h = lt-leb _ _ h ∙ stands_no k l at (λ w. omega (arith, ready.inside))

pub ruleset stands_cases = (stands_whole, stands_short)

-- the offset after a record is a number of 64 bits
pub stood_fits : (k : Kind) (l : List ℕ) (p : ℕ) {r : Bool} → r ≡ stands_at k l p → r ≡ true → length l * 1 < 2 ^ 63 → Fits w64 (p + k.size)
stood_fits k l p stood q h = let w : Stands k l p = stands_of k l p stood q in record { fits = omega arith }

-- ---- walk
pub walk_start : (k : Kind) (l : List ℕ) (count at : ℕ) → walk_of k l (count - 0) at ≡ walk_of k l count at
walk_start k l count at = let e : count - 0 ≡ count = omega arith in rw e

module _ (k : Kind) (l : List ℕ) (at count p i : ℕ) (so_far : walk_of k l (count - i) p ≡ walk_of k l count at) where
  module _ (h : i < count) {r : Bool} (stood : r ≡ stands_at k l p) where
    pub walk_on : r ≡ true → walk_of k l (count - (i + 1)) (p + k.size) ≡ walk_of k l count at
    unfolding walk_of
    walk_on q = let e : count - i ≡ suc (count - (i + 1)) = omega arith in simp (sym stood ∙ q) at (rw e at so_far)

    pub walk_fault : r ≡ false → Err p ≡ walk_of k l count at
    unfolding walk_of
    walk_fault q = let e : count - i ≡ suc (count - (i + 1)) = omega arith in simp (sym stood ∙ q) at (rw e at so_far)

  pub walk_end : count ≤ i → Ok p ≡ walk_of k l count at
  unfolding walk_of
  walk_end h = let e : count - i ≡ 0 = omega arith in rw e at so_far

pub walk_ready : (k : Kind) (l : List ℕ) (p : ℕ) {r : Bool} → r ≡ stands_at k l p → r ≡ true → Ready k l p → Ready k l (p + k.size)
walk_ready k l p stood q w = record { inside = (stands_of k l p stood q).inside; some = w.some }

pub ruleset walk_cases = (walk_start, walk_on, walk_fault, walk_end, walk_ready, stood_fits)

-- ---- held_at
pub held_read : (f : Layout) (l : List ℕ) (at : ℕ) {r g : ℕ} → g ≡ get_at l (at + f.held) 1 → r ≡ g → r ≡ held_at f l at
unfolding held_at
held_read f l at p q = q ∙ p

pub ruleset held_cases = (held_read)

-- ---- part
module _ (f : Layout) (b : ℕ) (l : List ℕ) (at : ℕ) {r : Bool} (stood : r ≡ stands_at f.segment l at) where
  pub part_none : r ≡ false → Err at ≡ part_of f b l at
  unfolding part_of segment_at all
  part_none q = simp (sym stood ∙ q)

  module _ (q : r ≡ true) {h : ℕ} (held : h ≡ held_at f l at) where
    pub part_full : b ≤ h → Err at ≡ part_of f b l at
    unfolding part_of segment_at all
    part_full g = simp (sym stood ∙ q, sym held, le-ltb h b g)

    pub part_walked : h < b → {w : Result ℕ ℕ} → w ≡ walk_of f.buffered l h (at + f.segment.size) → w ≡ part_of f b l at
    unfolding part_of segment_at all
    part_walked g e = simp (sym stood ∙ q, sym held, lt-ltb h b g) e

pub held_asks : (f : Layout) (l : List ℕ) (at : ℕ) {r : Bool} → r ≡ stands_at f.segment l at → r ≡ true → Readable f l at → Space l (at + f.held) 1
held_asks f l at stood q g = let w : Stands f.segment l at = stands_of f.segment l at stood q in omega arith

pub buffered_asks : (f : Layout) (l : List ℕ) (at : ℕ) {r : Bool} → r ≡ stands_at f.segment l at → r ≡ true → Readable f l at
    → Ready f.buffered l (at + f.segment.size)
buffered_asks f l at stood q g = let w : Stands f.segment l at = stands_of f.segment l at stood q in omega arith

pub segment_asks : (f : Layout) (l : List ℕ) (at : ℕ) → Readable f l at → Ready f.segment l at
segment_asks f l at g = omega arith

pub ruleset part_cases = (part_none, part_full, part_walked, held_asks, buffered_asks, segment_asks, stood_fits)

-- ---- parts
pub parts_start : (f : Layout) (b : ℕ) (l : List ℕ) (s at : ℕ) → parts_of f b l (s - 0) at ≡ parts_of f b l s at
parts_start f b l s at = let e : s - 0 ≡ s = omega arith in rw e

module _ (f : Layout) (b : ℕ) (l : List ℕ) (s at p i : ℕ) (so_far : parts_of f b l (s - i) p ≡ parts_of f b l s at) where
  module _ (h : i < s) where
    pub parts_on : {z : ℕ} → Ok z ≡ part_of f b l p → parts_of f b l (s - (i + 1)) z ≡ parts_of f b l s at
    unfolding parts_of
    parts_on q = let e : s - i ≡ suc (s - (i + 1)) = omega arith in simp (sym q) at (rw e at so_far)

    pub parts_fault : {q : ℕ} → Err q ≡ part_of f b l p → Err q ≡ parts_of f b l s at
    unfolding parts_of
    parts_fault q = let e : s - i ≡ suc (s - (i + 1)) = omega arith in simp (sym q) at (rw e at so_far)

  pub parts_end : s ≤ i → Ok p ≡ parts_of f b l s at
  unfolding parts_of
  parts_end h = let e : s - i ≡ 0 = omega arith in rw e at so_far

pub part_readable : (f : Layout) (b : ℕ) (l : List ℕ) (p z : ℕ) → Ok z ≡ part_of f b l p → Readable f l p → Readable f l z
part_readable f b l p z q g = record { inside = part_inside f b l p z (sym q); laid = g.laid }

pub ruleset parts_cases = (parts_start, parts_on, parts_end, part_readable)

-- ---- end
module _ (f : Layout) (l : List ℕ) (at : ℕ) {r : Bool} (stood : r ≡ stands_at f.end l at) where
  pub end_none : r ≡ false → Err at ≡ end_of f l at
  unfolding end_of
  end_none q = simp (sym stood ∙ q)

  pub end_past : r ≡ true → length l ≤ at + f.end.size → Ok (at + f.end.size) ≡ end_of f l at
  unfolding end_of
  end_past q h = simp (sym stood ∙ q, le-leb (length l) (at + f.end.size) h)

  pub end_more : r ≡ true → at + f.end.size < length l → Err (at + f.end.size) ≡ end_of f l at
  unfolding end_of
  end_more q h = simp (sym stood ∙ q, lt-leb (length l) (at + f.end.size) h)

pub end_asks : (f : Layout) (l : List ℕ) (at : ℕ) → Readable f l at → Ready f.end l at
end_asks f l at g = omega arith

pub ruleset end_cases = (end_none, end_past, end_more, end_asks, stood_fits)

-- ---- rest
module _ (f : Layout) (l : List ℕ) (b n s at : ℕ) where
  pub keys_fault : {q : ℕ} → Err q ≡ walk_of f.key l n at → Err q ≡ rest_of f l b n s at
  unfolding rest_of
  keys_fault q = simp (sym q)

  module _ {k : ℕ} (walked : Ok k ≡ walk_of f.key l n at) where
    pub keys_readable : Readable f l at → Readable f l k
    keys_readable g = record { inside = walk_inside f.key l n at k g.inside (sym walked); laid = g.laid }

    pub segments_fault : {q : ℕ} → Err q ≡ parts_of f b l s k → Err q ≡ rest_of f l b n s at
    unfolding rest_of
    segments_fault q = simp (sym walked, sym q)

    module _ {z : ℕ} (gone : Ok z ≡ parts_of f b l s k) where
      pub segments_readable : Readable f l k → Readable f l z
      segments_readable g = record { inside = parts_inside f b l s k z g.inside (sym gone); laid = g.laid }

      pub rest_answered : {r : Result ℕ ℕ} → r ≡ end_of f l z → r ≡ rest_of f l b n s at
      unfolding rest_of
      rest_answered e = simp (sym walked, sym gone) e

pub key_asks : (f : Layout) (l : List ℕ) (at : ℕ) → Readable f l at → Ready f.key l at
key_asks f l at g = omega arith

pub ruleset rest_cases = (keys_readable, segments_readable, rest_answered, key_asks)

-- ---- read
module _ (f : Layout) (l : List ℕ) {r : Bool} (stood : r ≡ stands_at f.head l 0) where
  pub head_refused : r ≡ false → Err (Malformed 0) ≡ judged_of f l
  unfolding judged_of
  head_refused q = simp (sym stood ∙ q)

  module _ (q : r ≡ true) where
    pub sizes_asks : Laid f → Space l 0 9
    sizes_asks g = let w : Stands f.head l 0 = stands_of f.head l 0 stood q in omega arith

    pub headed_asks : Laid f → Readable f l f.head.size
    headed_asks g = let w : Stands f.head l 0 = stands_of f.head l 0 stood q in omega arith

    pub head_answered : {z : Sizes} → z ≡ sizes_at l → {a : Result Sizes Refusal} → a ≡ headed_of f l z → a ≡ judged_of f l
    unfolding judged_of
    head_answered p v = simp (sym stood ∙ q) (v ∙ ap (headed_of f l) p)

pub head_asks : (f : Layout) (l : List ℕ) → Laid f → Ready f.head l 0
head_asks f l g = omega arith

pub ruleset read_cases = (head_refused, sizes_asks, headed_asks, head_answered, head_asks)

-- ---- headed
module _ (f : Layout) (l : List ℕ) (z : Sizes) {c : Bool} (counted : c ≡ counted_of z.e z.b z.n z.s) where
  pub limits_refused : c ≡ false → Err Limits ≡ headed_of f l z
  unfolding headed_of
  limits_refused t = simp (sym counted ∙ t)

  module _ (t : c ≡ true) {w : Result ℕ ℕ} (walked : w ≡ rest_of f l z.b z.n z.s f.head.size) where
    headed_is : headed_of f l z ≡ answer_of z w
    unfolding headed_of
    headed_is = simp (sym counted ∙ t) (ap (answer_of z) (sym walked))

    pub headed_well : {q : ℕ} → w ≡ Ok q → Ok z ≡ headed_of f l z
    headed_well q = sym (headed_is ∙ ap (answer_of z) q)

    pub headed_fault : {q : ℕ} → w ≡ Err q → Err (Malformed q) ≡ headed_of f l z
    headed_fault q = sym (headed_is ∙ ap (answer_of z) q)

-- what map_err says of a fault
pub fault_named : {w : Result ℕ ℕ} {m : Result ℕ Refusal} → MatchResult w (λ x. m ≡ Ok x) (λ e. IsErrAnd m (λ y. y ≡ Malformed e)) → {r : Refusal} → m ≡ Err r → (q : ℕ) × (w ≡ Err q) × (r ≡ Malformed q)
fault_named {w = Ok x} {m = Ok y} h q = clash (ap is_ok q)
fault_named {w = Ok x} {m = Err y} h q = clash (ap is_ok (sym h))
fault_named {w = Err x} {m = Ok y} h q = absurd h
fault_named {w = Err x} {m = Err y} h {r} q = let e : y ≡ r = cc in (x, refl, sym e ∙ h)

pub ruleset headed_cases = (limits_refused, headed_well)

-- ---- the editions
pub first_laid : (f : Layout) → f ≡ layout_of first → Laid f
unfolding total
first_laid f e = rw e (record { head = lit≤ tt; key = lit≤ tt; segment = lit< tt; buffered = lit≤ tt; end = lit≤ tt })

pub edition_read : (f g : Layout) (l : List ℕ) {a : Result Sizes Refusal} → f ≡ g → a ≡ judged_of f l → a ≡ judged_of g l
edition_read f g l e p = rw e at p

pub ruleset edition_cases = (first_laid, edition_read)
