use Rattle.insert_pieces.specs.Walked.{Going}
use Rattle.std.proofs.Common.{◌-◌, length}
use Rattle.insert_pieces.proofs.along.Given as goal

abbrev pub invariant-loop-c : goal.invariant-loop-c
invariant-loop-c l = Going l.e l.run l.used l.k l.y l.start l.i l.last l.cone

abbrev pub decreases-loop-c : goal.decreases-loop-c
decreases-loop-c l = length l.run - l.i
