use Rattle.range_stretch.specs.Asks.{Walking}
use Rattle.order.specs.Order.{rest_of}
use Rattle.std.proofs.Common.{length}
use Rattle.range_stretch.proofs.walk.Given as goal

abbrev pub invariant-loop-k : goal.invariant-loop-k
invariant-loop-k l = Walking l.low.0 l.high.0 l.initial.last l.seen l.run l.used l.last l.count l.m

abbrev pub decreases-loop-k : goal.decreases-loop-k
decreases-loop-k l = length (rest_of l.m l.run l.used 0)
