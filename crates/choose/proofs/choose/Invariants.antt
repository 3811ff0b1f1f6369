use Rattle.choose.specs.Descent.{Descended}
use Rattle.choose.proofs.choose.Given as goal

abbrev pub invariant-loop-i : goal.invariant-loop-i
invariant-loop-i l = Descended l.table l.s l.key l.i

-- proposed from the loop's first test
abbrev pub decreases-loop-i : goal.decreases-loop-i
decreases-loop-i l = l.i
