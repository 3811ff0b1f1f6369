-- Demand 2, "what is .. listed .. is what a plain sorted list of all reads .. says": the stretch that a range looks at has all the keys from
-- low to high that the store has, and no key from low to high is outside it.
-- Assumes nothing.
use mathlib.Core.Path.{◌≡◌, sym, ap, ◌∙◌}
use mathlib.Core.List.{List, ◌++◌, append-nil, append_assoc}
use Prim.Native.Nat.{ℕ, zero, suc, ◌+◌, ◌-◌, ◌*◌, ◌≤◌, ◌<◌}
use native.Mathlib.Omega.{arith}
use lib.Dec.{ltb}
use lib.ListN.{get_or}
use borrow.Author.Tests.{ltb-true, ltb-false}
use Rattle.lists.specs.Rising.{In}
use Rattle.lists.specs.Between.{between}
use Rattle.lists.proofs.Tests.{either}
use Rattle.lists.proofs.Between.{between_append, none_between}
use Rattle.table.specs.Store.{Store}
use Rattle.table.specs.Entries.{entry_in}
use Rattle.choose.specs.Chosen.{chosen_of, Chosen}
use Rattle.choose.specs.Stretch.{keys_from}
use Rattle.table.specs.Reads.{merged_in, stretch_of, reads}
use Rattle.choose.proofs.Chosen.{chosen_is}
use Rattle.judge.specs.Rules.{Accepted}
use Rattle.judge_laws.proofs.Bridge.{first_is}
use Rattle.judge_laws.proofs.Segments.{Among, in_stretch, held_from, held_below, firsts_rise}

-- a stretch in two parts
pub stretch_split : (σ : Store) (a c i : ℕ) → stretch_of σ i (a + c) ≡ stretch_of σ i a ++ stretch_of σ (i + a) c
unfolding stretch_of
stretch_split σ zero c i =
    let e : 0 + c ≡ c = omega arith in
    let f : i ≡ i + 0 = omega arith in
    ap (λ (m : ℕ). stretch_of σ i m) e ∙ ap (λ (m : ℕ). stretch_of σ m c) f
stretch_split σ (suc a) c i =
    let e : suc a + c ≡ suc (a + c) = omega arith in
    let f : suc i + a ≡ i + suc a = omega arith in
    ap (λ (m : ℕ). stretch_of σ i m) e
    ∙ ap (λ (l : List ℕ). merged_in σ i ++ l) (stretch_split σ a c (suc i) ∙ ap (λ (m : ℕ). stretch_of σ (suc i) a ++ stretch_of σ m c) f)
    ∙ sym (append_assoc (merged_in σ i) (stretch_of σ (suc i) a) (stretch_of σ (i + suc a) c))

-- the stretch never runs backwards, on any table
pub stretch_forward : (σ : Store) (low high a z : ℕ) → low ≤ high → Chosen σ.table σ.s low a → Chosen σ.table σ.s high z → a ≤ z
stretch_forward σ low high a z order for_low for_high =
    either (ltb z a) (λ t. absurd (omega (arith, for_high.above a (ltb-true _ _ t) for_low.inside, for_low.found (omega (arith, ltb-true z a t)))))
    (λ t. ltb-false z a t)

module _ (σ : Store) (ok : Accepted σ) (low high a z : ℕ) (order : low ≤ high) (for_low : Chosen σ.table σ.s low a) (for_high : Chosen σ.table σ.s high z) where
  -- what stands before the stretch is below low
  before_low : (k : ℕ) → In k (stretch_of σ 0 a) → k < low
  before_low k i =
      let w : Among σ k 0 a = in_stretch σ k a 0 i in
      let j : ℕ = w.segment in
      let next : j + 1 < σ.s = omega (arith, w.below, for_low.inside) in
      let b : k < (entry_in σ (j + 1)).first.0 = held_below σ ok j (omega arith) next k w.held in
      let f : get_or σ.table (5 * a) 0 ≤ low = for_low.found (omega (arith, w.below)) in
      either (ltb (j + 1) a)
      (λ t. omega (arith, b, f, firsts_rise σ ok (j + 1) a (ltb-true _ _ t) for_low.inside, first_is σ a))
      (λ t. let e : j + 1 ≡ a = omega (arith, ltb-false (j + 1) a t, w.below) in
      let c : k < (entry_in σ a).first.0 = rw e at b in
      omega (arith, c, f, first_is σ a))

  -- and what stands behind it is above high
  behind_high : (c k : ℕ) → suc z + c ≡ σ.s → In k (stretch_of σ (suc z) c) → high < k
  behind_high c k e i =
      let w : Among σ k (suc z) c = in_stretch σ k c (suc z) i in
      let j : ℕ = w.segment in
      let inside : j < σ.s = omega (arith, w.below) in
      omega (arith, for_high.above j (omega (arith, w.from)) inside, first_is σ j, held_from σ ok j inside (omega (arith, w.from)) k w.held)

  -- for any two segments chosen for low and high, and the c segments from the one to the other
  pub chosen_stretch : (c : ℕ) → a + c ≡ suc z → between low high (stretch_of σ a c) ≡ between low high (reads σ)
  chosen_stretch c q =
      let last : ℕ = σ.s - suc z in
      let s : σ.s ≡ a + (c + last) = omega (arith, for_high.inside) in
      let f : 0 + a ≡ a = omega arith in
      sym (
      ap (λ (m : ℕ). between low high (stretch_of σ 0 m)) s
      ∙ ap (between low high) (stretch_split σ a (c + last) 0 ∙ ap (λ (m : ℕ). stretch_of σ 0 a ++ stretch_of σ m (c + last)) f
      ∙ ap (λ (l : List ℕ). stretch_of σ 0 a ++ l) (stretch_split σ c last a ∙ ap (λ (m : ℕ). stretch_of σ a c ++ stretch_of σ m last) q))
      ∙ between_append low high (stretch_of σ 0 a) (stretch_of σ a c ++ stretch_of σ (suc z) last)
      ∙ ap (λ (l : List ℕ). l ++ between low high (stretch_of σ a c ++ stretch_of σ (suc z) last))
      (none_between low high (stretch_of σ 0 a) (λ k i g h. omega (arith, before_low k i)))
      ∙ between_append low high (stretch_of σ a c) (stretch_of σ (suc z) last)
      ∙ ap (λ (l : List ℕ). between low high (stretch_of σ a c) ++ l)
      (none_between low high (stretch_of σ (suc z) last) (λ k i g h. omega (arith, behind_high last k (omega (arith, for_high.inside)) i)))
      ∙ append-nil (between low high (stretch_of σ a c))
      )

-- The keys from low to high of the stretch from the segment chosen for low to that chosen for high are those of all the reads.
pub range_is : (σ : Store) → Accepted σ → (low high : ℕ) → low ≤ high → keys_from σ low high ≡ between low high (reads σ)
range_is σ ok low high order =
    let a : ℕ = chosen_of σ.table σ.s low in
    let z : ℕ = chosen_of σ.table σ.s high in
    let for_low : Chosen σ.table σ.s low a = chosen_is σ.table low σ.s ok.limits.s_least in
    let for_high : Chosen σ.table σ.s high z = chosen_is σ.table high σ.s ok.limits.s_least in
    chosen_stretch σ ok low high a z order for_low for_high (suc z - a) (omega (arith, stretch_forward σ low high a z order for_low for_high))
