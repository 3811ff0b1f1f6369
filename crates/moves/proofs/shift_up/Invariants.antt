use Rattle.moves.specs.Shift.{Moving}
use Rattle.moves.specs.Shift.{Moving}
use Rattle.moves.proofs.shift_up.Given as goal

abbrev pub invariant-loop-j : goal.invariant-loop-j
invariant-loop-j l = Moving l.initial.s l.from l.left l.by l.s l.j
