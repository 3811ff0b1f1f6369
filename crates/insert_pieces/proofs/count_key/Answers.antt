use Rattle.insert_pieces.proofs.Laws.{taken_cases}
use Rattle.std.proofs.Common.{rules}
use Rattle.insert_pieces.proofs.count_key.Goals as goal

-- src/lib.rt:35:9
pub returns-then-not-after : goal.returns-then-not-after
returns-then-not-after c = search (taken_cases, rules)

-- src/lib.rt:38:11
pub step-requires : goal.step-requires
step-requires c = search (taken_cases, rules)

-- src/lib.rt:48:21
pub overflow_add-result : goal.overflow_add-result
overflow_add-result c = search (taken_cases, rules)

-- src/lib.rt:30:1
pub returns-in-Some : goal.returns-in-Some
returns-in-Some c = search (taken_cases, rules)

-- src/lib.rt:30:1
pub returns-in-None : goal.returns-in-None
returns-in-None c = search (taken_cases, rules)
