use Rattle.std.proofs.Common.{rules}
use Rattle.image_put.proofs.Laws.{end_cases}
use Rattle.image_put.proofs.put_end.Goals as goal

pub returns-clause-place : goal.returns-clause-place
returns-clause-place c = search (end_cases, rules)
