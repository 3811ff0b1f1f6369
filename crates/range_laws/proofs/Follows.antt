-- A segment that the walk passes is fine, and a fine one it passes: the key before it, carried along, against the joined list.
-- Assumes nothing.
use Rattle.std.specs.Prelude.{Option, Some, None}
use mathlib.Core.Path.{◌≡◌, refl, sym}
use mathlib.Core.Bool.{true}
use mathlib.Core.List.{List, [], ◌∷◌, ◌++◌}
use Prim.Native.Nat.{ℕ, zero, suc, ◌-◌, ◌≤◌, ◌<◌}
use native.Mathlib.Omega.{arith}
use lib.ListN.{length, get_or}
use Rattle.lists.specs.Rising.{In}
use Rattle.lists.proofs.Rising.{up_rises, neighbours_up, in_at, in_below}
use Rattle.lists.proofs.Lists.{nil_cons}
use Rattle.terms.specs.Keys.{IsKey, RisingFrom}
use Rattle.terms.proofs.Keys.{true_from}
use Rattle.table.specs.Store.{Store}
use Rattle.table.specs.Entries.{entry_in}
use Rattle.table.specs.Reads.{merged_in, stretch_of}
use Rattle.table.proofs.Damages.{false_damaged}
use Rattle.order.specs.Bound.{floor_of, last_of}
use Rattle.range_stretch.specs.Stretch.{before_in, fine_of}
use Rattle.range_stretch.proofs.Stretches.{stretch_next, fine_sound, fine_up}
use Rattle.range_laws.specs.Answers.{Fine}

-- each key of ms is above its neighbour before it in the joined list
abbrev Above : List ℕ → List ℕ → Type 0
Above pre ms = (p : ℕ) → length pre ≤ suc p → suc p < length (pre ++ ms) → get_or (pre ++ ms) p 0 < get_or (pre ++ ms) (suc p) 0

up_above : (before : Option ℕ) (pre ms : List ℕ) → RisingFrom (floor_of (last_of before pre)) ms → Above pre ms
unfolding last_of
up_above before [] ms u p h l = up_rises (floor_of before) _ ms u p (suc p) (omega arith) l
up_above before (y ∷ ys) ms u (suc q) h l = up_above (Some y) ys ms u q (omega arith) (omega arith)
up_above before (y ∷ []) [] u zero h l = absurd (omega arith)
up_above before (y ∷ []) (z ∷ zs) u zero h l = u.0
up_above before (y ∷ (y' ∷ ys)) ms u zero h l = absurd (omega arith)

above_up : (before : Option ℕ) (pre ms : List ℕ) → (pre ≡ [] → 0 < length ms → floor_of before ≤ get_or ms 0 0) → ((k : ℕ) → In k ms → IsKey k) → Above pre ms →
    RisingFrom (floor_of (last_of before pre)) ms
unfolding last_of
above_up before [] ms first small rise =
    neighbours_up (floor_of before) _ ms (first refl) (λ i h. small (get_or ms i 0) (in_at ms i h)) (λ i h. rise i (omega arith) h)
above_up before (y ∷ []) ms first small rise =
    above_up (Some y) [] ms (λ e h. rise 0 (omega arith) (omega arith)) small (λ p h l. rise (suc p) (omega arith) (omega arith))
above_up before (y ∷ (y' ∷ ys)) ms first small rise =
    above_up (Some y) (y' ∷ ys) ms (λ e h. nil_cons y' ys (sym e)) small (λ p h l. rise (suc p) (omega arith) (omega arith))

module _ (σ : Store) (a i : ℕ) (from : a ≤ i) where
  joined : stretch_of σ a (suc i - a) ≡ stretch_of σ a (i - a) ++ merged_in σ i
  joined = stretch_next σ a i (suc i - a) from (omega arith)

  pub fine_true : fine_of σ a i ≡ true → Fine σ a i
  fine_true h =
      let u : RisingFrom (floor_of (before_in σ a i)) (merged_in σ i) = fine_up σ a i h in
      record {
        sound = fine_sound σ a i h;
        small = λ k j. in_below (floor_of (before_in σ a i)) _ k (merged_in σ i) u j;
        above = rw joined (up_above None (stretch_of σ a (i - a)) (merged_in σ i) u);
      }

  pub true_fine : Fine σ a i → fine_of σ a i ≡ true
  unfolding fine_of
  true_fine w =
      let u : RisingFrom (floor_of (before_in σ a i)) (merged_in σ i)
      = above_up None (stretch_of σ a (i - a)) (merged_in σ i) (λ e h. omega arith) w.small (rw joined at w.above) in
      rw (false_damaged σ.b σ.n (entry_in σ i) w.sound, true_from (floor_of (before_in σ a i)) (merged_in σ i) u) refl
