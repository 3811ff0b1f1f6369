use Rattle.image_judge.proofs.Laws.{walk_cases}
use Rattle.std.proofs.Common.{rules}
use Rattle.image_judge.proofs.walk.Goals as goal

-- src/lib.rt:31:5
pub loop-init : goal.loop-init
loop-init c = search (walk_cases, rules)

-- src/lib.rt:32:13
pub stands-requires : goal.stands-requires
stands-requires c = search (walk_cases, rules)

-- src/lib.rt:33:13
pub returns-then-not-stands : goal.returns-then-not-stands
returns-then-not-stands c = search (walk_cases, rules)

-- src/lib.rt:35:9
pub overflow_add-p : goal.overflow_add-p
overflow_add-p c = search (walk_cases, rules)

-- src/lib.rt:31:5
pub loop-preserved : goal.loop-preserved
loop-preserved c = search (walk_cases, rules)

-- src/lib.rt:26:1
pub returns : goal.returns
returns c = search (walk_cases, rules)
