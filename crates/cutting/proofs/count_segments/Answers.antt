use Rattle.cutting.proofs.Laws.{count_cases}
use Rattle.std.proofs.Common.{rules}
use Rattle.cutting.proofs.count_segments.Goals as goal

-- src/lib.rt:38:5
pub loop-i-init : goal.loop-i-init
loop-i-init c = search (count_cases, rules)

-- src/lib.rt:39:13
pub first_size-c-requires : goal.first_size-c-requires
first_size-c-requires c = search (count_cases, rules)

-- src/lib.rt:40:9
pub overflow_add-i : goal.overflow_add-i
overflow_add-i c = search (count_cases, rules)

-- src/lib.rt:41:9
pub overflow_add-n : goal.overflow_add-n
overflow_add-n c = search (count_cases, rules)

-- src/lib.rt:38:5
pub loop-i-smaller : goal.loop-i-smaller
loop-i-smaller c = search (count_cases, rules)

-- src/lib.rt:38:5
pub loop-i-preserved : goal.loop-i-preserved
loop-i-preserved c = search (count_cases, rules)

-- src/lib.rt:32:1
pub returns : goal.returns
returns c = search (count_cases, rules)
