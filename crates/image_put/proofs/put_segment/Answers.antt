use Rattle.std.proofs.Common.{rules}
use Rattle.image_put.proofs.Laws.{segment_cases}
use Rattle.image_put.proofs.put_segment.Goals as goal

pub returns-clause-place : goal.returns-clause-place
returns-clause-place c = search (segment_cases, rules)
