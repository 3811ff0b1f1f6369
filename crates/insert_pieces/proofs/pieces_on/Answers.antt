use Rattle.insert_pieces.proofs.Laws.{count_cases}
use Rattle.std.proofs.Common.{rules}
use Rattle.insert_pieces.proofs.pieces_on.Goals as goal

-- src/lib.rt:101:5
pub loop-z-init : goal.loop-z-init
loop-z-init c = search (count_cases, rules)

-- src/lib.rt:104:13
pub along-v-requires : goal.along-v-requires
along-v-requires c = search (count_cases, rules)

-- src/lib.rt:106:25
pub overflow_add-result : goal.overflow_add-result
overflow_add-result c = search (count_cases, rules)

-- src/lib.rt:106:13
pub returns-in_default : goal.returns-in_default
returns-in_default c = search (count_cases, rules)

-- src/lib.rt:101:5
pub loop-z-smaller : goal.loop-z-smaller
loop-z-smaller c = search (count_cases, c.in_ok-w.was, rules)

-- src/lib.rt:101:5
pub loop-z-preserved : goal.loop-z-preserved
loop-z-preserved c = search (count_cases, rules)
