use Rattle.choose.proofs.Descent.{few_cases}
use Rattle.std.proofs.Common.{rules}
use Rattle.choose.proofs.last_few.Goals as goal

-- src/lib.rt:62:5
pub loop-j-init : goal.loop-j-init
loop-j-init c = search (few_cases, rules)

-- src/lib.rt:64:13
pub returns-then-table-j : goal.returns-then-table-j
returns-then-table-j c = search (few_cases, rules)

-- src/lib.rt:62:5
pub loop-j-preserved : goal.loop-j-preserved
loop-j-preserved c = search (few_cases, rules)

-- src/lib.rt:58:1
pub returns : goal.returns
returns c = search (few_cases, rules)
