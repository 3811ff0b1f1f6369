use Rattle.range_stretch.proofs.Laws.{judge_cases}
use Rattle.std.proofs.Common.{rules}
use Rattle.range_stretch.proofs.judge_stretch.Goals as goal

-- src/lib.rt:106:5
pub loop-i-init : goal.loop-i-init
loop-i-init c = search (judge_cases, rules)

-- src/lib.rt:106:5
pub loop-i-preserved : goal.loop-i-preserved
loop-i-preserved c = search (judge_cases, rules)

-- src/lib.rt:93:1
pub returns : goal.returns
returns c = search (judge_cases, rules)
