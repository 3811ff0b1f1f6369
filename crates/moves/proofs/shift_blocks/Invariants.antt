use Rattle.moves.specs.Shift.{Moving}
use Rattle.moves.specs.Shift.{Moving}
use Rattle.moves.proofs.shift_blocks.Given as goal

abbrev pub invariant-loop-left : goal.invariant-loop-left
invariant-loop-left l = Moving l.initial.s l.from l.count l.by l.s l.left

-- proposed from the loop's first test
abbrev pub decreases-loop-left : goal.decreases-loop-left
decreases-loop-left l = l.left
