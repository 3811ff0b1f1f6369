use Rattle.cutting.proofs.Laws.{size_cases}
use Rattle.std.proofs.Common.{rules}
use Rattle.cutting.proofs.first_size.Goals as goal

-- src/lib.rt:22:5
pub loop-j-init : goal.loop-j-init
loop-j-init c = search (size_cases, rules)

-- src/lib.rt:23:26
pub step-requires : goal.step-requires
step-requires c = search (size_cases, rules)

-- src/lib.rt:24:13
pub returns-in_default : goal.returns-in_default
returns-in_default c = search (size_cases, rules)

-- src/lib.rt:22:5
pub loop-j-preserved : goal.loop-j-preserved
loop-j-preserved c = search (size_cases, rules)

-- src/lib.rt:16:1
pub returns : goal.returns
returns c = search (size_cases, rules)
