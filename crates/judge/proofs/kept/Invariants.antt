use Rattle.judge.specs.Check.{Going}
use Rattle.order.specs.Order.{rest_of}
use Rattle.std.proofs.Common.{length}
use Rattle.judge.proofs.kept.Given as goal

abbrev pub invariant-loop-k : goal.invariant-loop-k
invariant-loop-k l = Going l.e l.x l.i l.next l.run l.used l.before l.m

abbrev pub decreases-loop-k : goal.decreases-loop-k
decreases-loop-k l = length (rest_of l.m l.run l.used 0)
