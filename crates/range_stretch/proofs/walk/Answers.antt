use Rattle.range_stretch.proofs.Laws.{walk_cases}
use Rattle.std.proofs.Common.{rules}
use Rattle.range_stretch.proofs.walk.Goals as goal

-- src/lib.rt:58:5
pub loop-k-init : goal.loop-k-init
loop-k-init c = search (walk_cases, rules)

-- src/lib.rt:60:13
pub returns-then-not-follows : goal.returns-then-not-follows
returns-then-not-follows c = search (walk_cases, rules)

-- src/lib.rt:58:5
pub loop-k-preserved : goal.loop-k-preserved
loop-k-preserved c = search (walk_cases, rules)
