use Rattle.image_judge.proofs.Laws.{held_cases}
use Rattle.std.proofs.Common.{rules}
use Rattle.image_judge.proofs.held_at.Goals as goal

-- src/lib.rt:41:1
pub returns : goal.returns
returns c = search (held_cases, rules)
