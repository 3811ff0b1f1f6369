use Rattle.insert_pieces.proofs.Laws.{along_cases}
use Rattle.std.proofs.Common.{rules}
use Rattle.insert_pieces.proofs.along.Goals as goal

-- src/lib.rt:76:5
pub loop-c-init : goal.loop-c-init
loop-c-init c = search (along_cases, rules)

-- src/lib.rt:76:25
pub joined-requires : goal.joined-requires
joined-requires c = search (along_cases, rules)

-- src/lib.rt:76:5
pub loop-c-smaller : goal.loop-c-smaller
loop-c-smaller c = search (along_cases, rules)

-- src/lib.rt:76:5
pub loop-c-preserved : goal.loop-c-preserved
loop-c-preserved c = search (along_cases, rules)

-- src/lib.rt:68:1
pub returns : goal.returns
returns c = search (along_cases, rules)
