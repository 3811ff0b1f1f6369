use Rattle.image_little.proofs.Laws.{get_cases}
use Rattle.std.proofs.Common.{rules}
use Rattle.image_little.proofs.get.Goals as goal

-- src/lib.rt:37:5
pub loop-i-init : goal.loop-i-init
loop-i-init c = search (get_cases, rules)

-- src/lib.rt:38:13
pub overflow_mul-v : goal.overflow_mul-v
overflow_mul-v c = search (get_cases, c.type_inv.src, rules)

-- src/lib.rt:38:13
pub overflow_add-v : goal.overflow_add-v
overflow_add-v c = search (get_cases, c.type_inv.src, rules)

-- src/lib.rt:37:5
pub loop-i-preserved : goal.loop-i-preserved
loop-i-preserved c = search (get_cases, c.type_inv.src, rules)

-- src/lib.rt:32:1
pub returns : goal.returns
returns c = search (get_cases, c.type_inv.src, rules)
