use Rattle.insert.proofs.Due.{insert_cases}
use Rattle.std.proofs.Common.{rules}
use Rattle.insert.proofs.carry_out.Goals as goal

-- src/lib.rt:31:13
pub hold-requires : goal.hold-requires
hold-requires c = search (insert_cases, rules)

-- src/lib.rt:38:20
pub overflow_add-merged : goal.overflow_add-merged
overflow_add-merged c = search (insert_cases, rules)

-- src/lib.rt:39:20
pub overflow_sub-merged : goal.overflow_sub-merged
overflow_sub-merged c = search (insert_cases, rules)

-- src/lib.rt:39:20
pub overflow_add-merged-in-Merge : goal.overflow_add-merged-in-Merge
overflow_add-merged-in-Merge c = search (insert_cases, rules)

-- src/lib.rt:41:13
pub join-requires : goal.join-requires
join-requires c = search (insert_cases, rules)

-- src/lib.rt:15:1
pub returns-in-Put-clause-answered : goal.returns-in-Put-clause-answered
returns-in-Put-clause-answered c = search (insert_cases, rules)

-- src/lib.rt:15:1
pub returns-in-Merge-clause-answered : goal.returns-in-Merge-clause-answered
returns-in-Merge-clause-answered c = search (insert_cases, rules)
