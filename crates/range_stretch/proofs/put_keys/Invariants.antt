use Rattle.range_stretch.proofs.Laws.{Putting}
use Rattle.order.specs.Order.{rest_of}
use Rattle.std.proofs.Common.{length}
use Rattle.range_stretch.proofs.put_keys.Given as goal

abbrev pub invariant-loop-k : goal.invariant-loop-k
invariant-loop-k l = Putting l.low.0 l.high.0 l.run l.used l.initial.out l.at l.m l.out l.p

abbrev pub decreases-loop-k : goal.decreases-loop-k
decreases-loop-k l = length (rest_of l.m l.run l.used 0)
