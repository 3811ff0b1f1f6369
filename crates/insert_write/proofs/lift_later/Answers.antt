use Rattle.insert_write.proofs.Writing.{slots_cases}
use Rattle.std.proofs.Common.{rules}
use Rattle.insert_write.proofs.lift_later.Goals as goal

-- src/lib.rt:56:5
pub lift-requires : goal.lift-requires
lift-requires c = search (slots_cases, rules)

-- src/lib.rt:48:1
pub returns : goal.returns
returns c = search (slots_cases, rules)
