use Rattle.range.proofs.Laws.{stretched_cases}
use Rattle.std.proofs.Common.{rules}
use Rattle.range.proofs.stretched.Goals as goal

pub returns-then-out-m-clause-answered : goal.returns-then-out-m-clause-answered
returns-then-out-m-clause-answered c = search (stretched_cases, c.in_ok-m.ensures, rules)

pub fill-requires : goal.fill-requires
fill-requires c = search (stretched_cases, c.in_ok-m.ensures, rules)

pub returns-clause-answered : goal.returns-clause-answered
returns-clause-answered c = search (stretched_cases, c.in_ok-m.ensures, rules)
