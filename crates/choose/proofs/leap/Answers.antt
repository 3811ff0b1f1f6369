use Rattle.choose.proofs.Descent.{leap_cases}
use Rattle.std.proofs.Common.{rules}
use Rattle.choose.proofs.leap.Goals as goal

-- src/lib.rt:51:5
pub loop-i-init : goal.loop-i-init
loop-i-init c = search (leap_cases, rules)

-- src/lib.rt:51:11
pub sixteen_above-requires : goal.sixteen_above-requires
sixteen_above-requires c = search (leap_cases, rules)

-- src/lib.rt:52:9
pub overflow_sub-i : goal.overflow_sub-i
overflow_sub-i c = search (leap_cases, rules)

-- src/lib.rt:51:5
pub loop-i-smaller : goal.loop-i-smaller
loop-i-smaller c = search (leap_cases, rules)

-- src/lib.rt:51:5
pub loop-i-preserved : goal.loop-i-preserved
loop-i-preserved c = search (leap_cases, rules)

-- src/lib.rt:46:1
pub returns : goal.returns
returns c = search (leap_cases, rules)
