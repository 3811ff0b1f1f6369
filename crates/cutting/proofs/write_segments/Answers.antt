use Rattle.cutting.proofs.Laws.{write_cases}
use Rattle.std.proofs.Common.{rules}
use Rattle.cutting.proofs.write_segments.Goals as goal

-- src/lib.rt:77:5
pub loop-i-init : goal.loop-i-init
loop-i-init c = search (write_cases, rules)

-- src/lib.rt:78:13
pub first_size-c-requires : goal.first_size-c-requires
first_size-c-requires c = search (write_cases, rules)

-- src/lib.rt:79:9
pub close-requires : goal.close-requires
close-requires c = search (write_cases, rules)

-- src/lib.rt:80:9
pub overflow_add-i : goal.overflow_add-i
overflow_add-i c = search (write_cases, rules)

-- src/lib.rt:81:9
pub overflow_add-n : goal.overflow_add-n
overflow_add-n c = search (write_cases, rules)

-- src/lib.rt:77:5
pub loop-i-smaller : goal.loop-i-smaller
loop-i-smaller c = search (write_cases, rules)

-- src/lib.rt:77:5
pub loop-i-preserved : goal.loop-i-preserved
loop-i-preserved c = search (write_cases, rules)

-- src/lib.rt:70:1
pub returns-clause-counted : goal.returns-clause-counted
returns-clause-counted c = search (write_cases, rules)

-- src/lib.rt:70:1
pub returns-clause-written : goal.returns-clause-written
returns-clause-written c = search (write_cases, rules)
