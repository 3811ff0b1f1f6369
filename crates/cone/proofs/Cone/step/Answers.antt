use Rattle.std.proofs.Common.{rules}
use Rattle.cone.proofs.Laws.{step_cases}
use Rattle.cone.proofs.Cone.step.Goals as goal

pub returns-then-within-2 : goal.returns-then-within-2
returns-then-within-2 c = search (step_cases, rules)

pub returns-else-within : goal.returns-else-within
returns-else-within c = search (step_cases, rules)
