use Rattle.insert_write.proofs.Writing.{join_cases}
use Rattle.std.proofs.Common.{rules}
use Rattle.insert_write.proofs.join.Goals as goal

-- src/lib.rt:111:5
pub make_room-requires : goal.make_room-requires
make_room-requires c = search (join_cases, rules)

-- src/lib.rt:112:5
pub recut-requires : goal.recut-requires
recut-requires c = search (join_cases, rules)

-- src/lib.rt:94:1
pub returns-clause-table : goal.returns-clause-table
returns-clause-table c = search (join_cases, rules)
