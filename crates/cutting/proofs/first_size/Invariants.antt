use Rattle.cutting.proofs.Laws.{Sizing}
use Rattle.cutting.proofs.first_size.Given as goal

abbrev pub invariant-loop-j : goal.invariant-loop-j
invariant-loop-j l = Sizing l.e l.keys l.j l.cone
