use Rattle.moves.proofs.Slots.{lift_cases}
use Rattle.std.proofs.Common.{rules}
use Rattle.moves.proofs.lift.Goals as goal

-- src/lib.rt:81:9
pub returns-then-by-eq0 : goal.returns-then-by-eq0
returns-then-by-eq0 c = search (lift_cases, rules)

-- src/lib.rt:84:5
pub loop-c-init : goal.loop-c-init
loop-c-init c = search (lift_cases, rules)

-- src/lib.rt:84:5
pub loop-c-preserved : goal.loop-c-preserved
loop-c-preserved c = search (lift_cases, rules)

-- src/lib.rt:76:1
pub returns : goal.returns
returns c = search (lift_cases, rules)
