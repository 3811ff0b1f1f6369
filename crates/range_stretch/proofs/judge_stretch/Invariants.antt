use Rattle.table.specs.Store.{store_in}
use Rattle.range_stretch.specs.Asks.{Judging}
use Rattle.range_stretch.proofs.judge_stretch.Given as goal

abbrev pub invariant-loop-i : goal.invariant-loop-i
invariant-loop-i l = Judging (store_in l.store) l.low.0 l.high.0 l.a l.to l.i l.before l.seen
