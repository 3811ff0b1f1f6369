use Rattle.judge.proofs.Laws.{kept_cases}
use Rattle.std.proofs.Common.{rules}
use Rattle.judge.proofs.kept.Goals as goal

-- src/lib.rt:23:5
pub loop-k-preserved : goal.loop-k-preserved
loop-k-preserved c = search (kept_cases, rules)
