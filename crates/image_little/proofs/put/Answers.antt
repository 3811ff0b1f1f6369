use Rattle.image_little.proofs.Laws.{put_cases}
use Rattle.std.proofs.Common.{rules}
use Rattle.image_little.proofs.put.Goals as goal

-- src/lib.rt:25:5
pub loop-i-init : goal.loop-i-init
loop-i-init c = search (put_cases, rules)

-- src/lib.rt:25:5
pub loop-i-preserved : goal.loop-i-preserved
loop-i-preserved c = search (put_cases, rules)

-- src/lib.rt:20:1
pub returns : goal.returns
returns c = search (put_cases, rules)
