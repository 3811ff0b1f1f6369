use Rattle.readstore.proofs.Laws.{range_answered, range_written}
use Rattle.readstore.proofs.readstore_range.Goals as goal

pub returns-clause-answered : goal.returns-clause-answered
returns-clause-answered c = range_answered _ _ c.lent.ensures _ _ _ c.range-a.ensures.answered c.ranged_numbers.ensures

pub returns-clause-written : goal.returns-clause-written
returns-clause-written c = range_written _ _ c.lent.ensures _ _ _ c.range-a.ensures.answered c.range-a.ensures.written
