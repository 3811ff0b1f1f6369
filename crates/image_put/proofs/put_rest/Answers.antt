use Rattle.std.proofs.Common.{rules}
use Rattle.image_put.proofs.Laws.{rest_cases}
use Rattle.image_put.proofs.put_rest.Goals as goal

pub returns-clause-place : goal.returns-clause-place
returns-clause-place c = search (rest_cases, rules)
