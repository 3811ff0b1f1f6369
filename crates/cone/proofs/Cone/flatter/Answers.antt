use Rattle.std.proofs.Common.{rules}
use Rattle.cone.proofs.Laws.{flatter_cases}
use Rattle.cone.proofs.Cone.flatter.Goals as goal

pub returns-then-past : goal.returns-then-past
returns-then-past c = search (flatter_cases, rules)
