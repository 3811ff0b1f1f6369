use Rattle.image_judge.proofs.Laws.{stands_cases}
use Rattle.std.proofs.Common.{rules}
use Rattle.image_judge.proofs.stands.Goals as goal

-- src/lib.rt:17:1
pub returns-then-k-bytes : goal.returns-then-k-bytes
returns-then-k-bytes c = search (stands_cases, rules)

-- src/lib.rt:17:1
pub returns-else-k-bytes : goal.returns-else-k-bytes
returns-else-k-bytes c = search (stands_cases, rules)
