use Rattle.judge_key.proofs.Laws.{between_cases}
use Rattle.std.proofs.Common.{arith}
use Rattle.judge_key.proofs.between.Goals as goal
use Rattle.judge_key.proofs.between.Goals.{then-is_key, else-is_key}

-- src/lib.rt:11:1
pub returns-then-above : goal.returns-then-above
returns-then-above c = elim c.if-is_key.branch [ then-is_key w ↦ grind (arith, between_cases) | else-is_key w ↦ grind arith ]

-- src/lib.rt:11:1
pub returns-else-above : goal.returns-else-above
returns-else-above c = elim c.if-is_key.branch [ then-is_key w ↦ grind (arith, between_cases) | else-is_key w ↦ grind (arith, between_cases) ]
