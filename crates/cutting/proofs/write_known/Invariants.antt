use Rattle.cutting.proofs.Laws.{Filling}
use Rattle.cutting.proofs.write_known.Given as goal

abbrev pub invariant-loop-n : goal.invariant-loop-n
invariant-loop-n l = Filling l.e l.keys l.from l.initial.table l.t l.i l.n l.table
