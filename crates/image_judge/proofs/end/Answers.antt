use Rattle.image_judge.proofs.Laws.{end_cases}
use Rattle.std.proofs.Common.{rules}
use Rattle.image_judge.proofs.end.Goals as goal

-- src/lib.rt:81:9
pub returns-then-not-stands : goal.returns-then-not-stands
returns-then-not-stands c = search (end_cases, rules)

-- src/lib.rt:83:13
pub overflow_add-z : goal.overflow_add-z
overflow_add-z c = search (end_cases, rules)

-- src/lib.rt:85:9
pub returns-then-z-bytes : goal.returns-then-z-bytes
returns-then-z-bytes c = search (end_cases, rules)

-- src/lib.rt:76:1
pub returns : goal.returns
returns c = search (end_cases, rules)
