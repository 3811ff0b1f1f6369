use Rattle.order.specs.Order.{rest_of}
use Rattle.insert_pieces.specs.Walked.{Counting}
use Rattle.std.proofs.Common.{length}
use Rattle.insert_pieces.proofs.pieces_on.Given as goal

abbrev pub invariant-loop-z : goal.invariant-loop-z
invariant-loop-z l = Counting l.e l.run l.used l.k l.w

abbrev pub decreases-loop-z : goal.decreases-loop-z
decreases-loop-z l = length (rest_of l.w.at l.run l.used l.k)
