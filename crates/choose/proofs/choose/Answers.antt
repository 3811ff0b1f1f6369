use Rattle.choose.proofs.Descent.{walk_cases}
use Rattle.std.proofs.Common.{rules}
use Rattle.choose.proofs.choose.Goals as goal

-- src/lib.rt:78:5
pub loop-i-init : goal.loop-i-init
loop-i-init c = search (walk_cases, rules)

-- src/lib.rt:79:13
pub passed-p-requires : goal.passed-p-requires
passed-p-requires c = search (walk_cases, rules)

-- src/lib.rt:81:13
pub returns-then-p-lt4 : goal.returns-then-p-lt4
returns-then-p-lt4 c = search (walk_cases, rules)

-- src/lib.rt:78:5
pub loop-i-preserved : goal.loop-i-preserved
loop-i-preserved c = search (walk_cases, rules)

-- src/lib.rt:85:5
pub last_few-requires : goal.last_few-requires
last_few-requires c = search (walk_cases, rules)

-- src/lib.rt:72:1
pub returns : goal.returns
returns c = search (walk_cases, rules)
