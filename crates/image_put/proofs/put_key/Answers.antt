use Rattle.std.proofs.Common.{rules}
use Rattle.image_put.proofs.Laws.{key_cases}
use Rattle.image_put.proofs.put_key.Goals as goal

pub returns-clause-place : goal.returns-clause-place
returns-clause-place c = search (key_cases, rules)
