use Rattle.choose.specs.Descent.{Descended}
use Rattle.choose.proofs.last_few.Given as goal

abbrev pub invariant-loop-j : goal.invariant-loop-j
invariant-loop-j l = Descended l.table l.i l.key l.j
