use Rattle.moves.proofs.Tail.{bases_cases}
use Rattle.std.proofs.Common.{rules}
use Rattle.moves.proofs.add_bases.Goals as goal

-- src/lib.rt:58:5
pub loop-i-init : goal.loop-i-init
loop-i-init c = search (bases_cases, rules)

-- src/lib.rt:60:9
pub overflow_add-t : goal.overflow_add-t
overflow_add-t c = search (bases_cases, rules)

-- src/lib.rt:58:5
pub loop-i-preserved : goal.loop-i-preserved
loop-i-preserved c = search (bases_cases, rules)

-- src/lib.rt:54:1
pub returns : goal.returns
returns c = search (bases_cases, rules)
