use Rattle.readstore.proofs.Laws.{build_answered, build_written}
use Rattle.readstore.proofs.readstore_build.Goals as goal

pub returns-clause-answered : goal.returns-clause-answered
returns-clause-answered c = build_answered _ _ _ c.size.ensures c.size-2.ensures c.size-3.ensures c.build-a.ensures.answered c.built_numbers.ensures

pub returns-clause-written : goal.returns-clause-written
returns-clause-written c = build_written _ _ _ c.size.ensures c.size-2.ensures c.size-3.ensures c.build-a.ensures.answered c.build-a.ensures.written
