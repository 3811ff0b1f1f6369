use Rattle.cutting.proofs.Laws.{Writing}
use Rattle.std.proofs.Common.{length, ◌-◌}
use Rattle.cutting.proofs.write_segments.Given as goal

abbrev pub invariant-loop-i : goal.invariant-loop-i
invariant-loop-i l = Writing l.e l.keys l.from l.initial.table l.i l.n l.table

-- proposed from the loop's first test
abbrev pub decreases-loop-i : goal.decreases-loop-i
decreases-loop-i l = length l.keys - l.i
