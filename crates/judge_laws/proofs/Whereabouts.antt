-- Where a key must be: on an accepted store a key that is read at all is read in the segment chosen for it.
-- Assumes nothing.
use mathlib.Core.Path.{◌≡◌}
use Prim.Native.Nat.{ℕ, ◌+◌, ◌*◌, ◌<◌}
use native.Mathlib.Omega.{arith}
use lib.Dec.{ltb}
use lib.ListN.{get_or}
use borrow.Author.Tests.{ltb-true, ltb-false}
use Rattle.lists.specs.Rising.{In}
use Rattle.lists.proofs.Tests.{either}
use Rattle.table.specs.Store.{Store}
use Rattle.table.specs.Entries.{entry_in}
use Rattle.choose.specs.Chosen.{Chosen}
use Rattle.table.specs.Reads.{merged_in, reads}
use Rattle.choose.proofs.Chosen.{one_choice}
use Rattle.judge.specs.Rules.{Accepted}
use Rattle.judge_laws.specs.Covered.{InSegment}
use Rattle.judge_laws.proofs.Bridge.{first_is}
use Rattle.judge_laws.proofs.Segments.{Among, read_segment, segment_read, held_from, held_below, firsts_rise}

module _ (σ : Store) (ok : Accepted σ) (k : ℕ) where
  -- the segment that holds a key is the one that is chosen for it
  pub holder_chosen : (i : ℕ) → InSegment σ k i → Chosen σ.table σ.s k i
  holder_chosen i w =
      record { inside = w.segment; above = above; found = λ h. rw (first_is σ i) at (held_from σ ok i w.segment h k w.held) }
    where
      above : (j : ℕ) → i < j → j < σ.s → k < get_or σ.table (5 * j) 0
      above j h g =
          let b : k < (entry_in σ (i + 1)).first.0 = held_below σ ok i w.segment (omega arith) k w.held in
          rw (← first_is σ j)
          (either (ltb (i + 1) j) (λ t. omega (arith, b, firsts_rise σ ok (i + 1) j (ltb-true _ _ t) g))
          (λ t. let e : j ≡ i + 1 = omega (arith, ltb-false (i + 1) j t) in rw e b))

  pub read_where : (i : ℕ) → Chosen σ.table σ.s k i → In k (reads σ) → In k (merged_in σ i)
  read_where i c j =
      let w : Among σ k 0 σ.s = read_segment σ k j in
      let e : w.segment ≡ i = one_choice σ.table k σ.s w.segment i (holder_chosen w.segment (record { segment = omega (arith, w.below); held = w.held })) c in
      rw e at w.held

  -- and what the chosen segment holds is read
  pub where_read : (i : ℕ) → Chosen σ.table σ.s k i → In k (merged_in σ i) → In k (reads σ)
  where_read i c h = segment_read σ k i (record { segment = c.inside; held = h })
