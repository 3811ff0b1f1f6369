use Rattle.std.proofs.Common.{rules}
use Rattle.image_put.proofs.Laws.{image_cases}
use Rattle.image_put.proofs.put_image.Goals as goal

pub put_rest-requires : goal.put_rest-requires
put_rest-requires c = search (image_cases, rules)

pub returns-clause-place : goal.returns-clause-place
returns-clause-place c = search (image_cases, rules)
