use Rattle.moves.specs.Tail.{Raising}
use Rattle.moves.proofs.add_bases.Given as goal

abbrev pub invariant-loop-i : goal.invariant-loop-i
invariant-loop-i l = Raising l.initial.t l.entries l.add l.t l.i
