use Rattle.image_judge.proofs.Laws.{read_cases}
use Rattle.std.proofs.Common.{rules}
use Rattle.image_judge.proofs.judge_by.Goals as goal

-- src/lib.rt:139:9
pub returns-then-not-stands : goal.returns-then-not-stands
returns-then-not-stands c = search (read_cases, rules)

-- src/lib.rt:141:22
pub head_sizes-requires : goal.head_sizes-requires
head_sizes-requires c = search (read_cases, rules)

-- src/lib.rt:141:5
pub headed-requires : goal.headed-requires
headed-requires c = search (read_cases, rules)

-- src/lib.rt:134:1
pub returns : goal.returns
returns c = search (read_cases, rules)
