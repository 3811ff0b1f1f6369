use Rattle.image_write.proofs.Laws.{size_cases}
use Rattle.std.proofs.Common.{rules}
use Rattle.image_write.proofs.image_size.Goals as goal

-- src/lib.rt:18:5
pub loop-i-init : goal.loop-i-init
loop-i-init c = search (size_cases, rules)

-- src/lib.rt:19:9
pub overflow_add-p-in-loop-i-2 : goal.overflow_add-p-in-loop-i-2
overflow_add-p-in-loop-i-2 c = search (size_cases, rules)

-- src/lib.rt:18:5
pub loop-i-preserved : goal.loop-i-preserved
loop-i-preserved c = search (size_cases, rules)

-- src/lib.rt:13:1
pub returns : goal.returns
returns c = search (size_cases, rules)
