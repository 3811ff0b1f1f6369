use Rattle.insert_write.proofs.Writing.{rows_cases}
use Rattle.std.proofs.Common.{rules}
use Rattle.insert_write.proofs.raise_later.Goals as goal

-- src/lib.rt:68:5
pub raise-requires : goal.raise-requires
raise-requires c = search (rows_cases, rules)

-- src/lib.rt:60:1
pub returns : goal.returns
returns c = search (rows_cases, rules)
