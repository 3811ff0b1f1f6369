use Rattle.moves.specs.Slots.{Lifting}
use Rattle.moves.proofs.lift.Given as goal

abbrev pub invariant-loop-c : goal.invariant-loop-c
invariant-loop-c l = Lifting l.initial.slots l.tail l.b l.count l.by l.slots l.c
