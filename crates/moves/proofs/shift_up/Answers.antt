use Rattle.moves.proofs.Shift.{shift_cases}
use Rattle.std.proofs.Common.{rules}
use Rattle.moves.proofs.shift_up.Goals as goal

-- src/lib.rt:44:9
pub returns-then-by-eq0 : goal.returns-then-by-eq0
returns-then-by-eq0 c = search (shift_cases, rules)

-- src/lib.rt:47:5
pub loop-j-init : goal.loop-j-init
loop-j-init c = search (shift_cases, rules)

-- src/lib.rt:47:5
pub loop-j-preserved : goal.loop-j-preserved
loop-j-preserved c = search (shift_cases, rules)

-- src/lib.rt:39:1
pub returns : goal.returns
returns c = search (shift_cases, rules)
