use Rattle.cutting.proofs.Laws.{Counting}
use Rattle.std.proofs.Common.{length, ◌-◌}
use Rattle.cutting.proofs.count_segments.Given as goal

abbrev pub invariant-loop-i : goal.invariant-loop-i
invariant-loop-i l = Counting l.e l.keys l.i l.n

-- proposed from the loop's first test
abbrev pub decreases-loop-i : goal.decreases-loop-i
decreases-loop-i l = length l.keys - l.i
