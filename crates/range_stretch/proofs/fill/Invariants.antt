use Rattle.table.specs.Store.{store_in}
use Rattle.range_stretch.specs.Asks.{Filling}
use Rattle.range_stretch.proofs.fill.Given as goal

abbrev pub invariant-loop-i : goal.invariant-loop-i
invariant-loop-i l = Filling (store_in l.store) l.low.0 l.high.0 l.a l.to l.initial.out l.i l.out l.at
