-- The five cells of an entry, as they are put one by one.
-- Assumes nothing.
use mathlib.Core.Path.{◌≡◌}
use mathlib.Core.List.{List, [], ◌∷◌}
use Prim.Native.Nat.{ℕ, ◌+◌}
use native.Mathlib.Numerals.{towards_suc}
use lib.ListN.{set}
use Rattle.lists.specs.Over.{over}

pub five_written : (t : List ℕ) (at a b c d e : ℕ) → set (set (set (set (set t at a) (at + 1) b) (at + 2) c) (at + 3) d) (at + 4) e ≡ over t at (a ∷ (b ∷ (c ∷ (d ∷ (e ∷ [])))))
unfolding over
five_written t at a b c d e = simp towards_suc

pub ruleset five_cases = (five_written)
