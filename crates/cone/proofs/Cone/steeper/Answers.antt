use Rattle.std.proofs.Common.{rules}
use Rattle.cone.proofs.Laws.{steeper_cases}
use Rattle.cone.proofs.Cone.steeper.Goals as goal

pub returns-then-past : goal.returns-then-past
returns-then-past c = search (steeper_cases, rules)
