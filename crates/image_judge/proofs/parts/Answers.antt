use Rattle.lists.proofs.Passed.{passed}
use Rattle.image_judge.proofs.Laws.{parts_fault}
use Rattle.std.proofs.Common.{◌∙◌}
use Rattle.image_judge.proofs.Laws.{parts_cases}
use Rattle.std.proofs.Common.{rules}
use Rattle.image_judge.proofs.parts.Goals as goal

-- src/lib.rt:69:5
pub loop-init : goal.loop-init
loop-init c = search (parts_cases, rules)

-- src/lib.rt:70:13
pub part-requires : goal.part-requires
part-requires c = search (parts_cases, rules)

-- src/lib.rt:70:13
pub returns-in_err-p : goal.returns-in_err-p
returns-in_err-p c = passed c.from_residual.ensures.1 ∙ parts_fault _ _ _ _ _ _ _ c.loop.invariant.1 c.loop-test.true c.in_err-p.ensures

-- src/lib.rt:69:5
pub loop-preserved : goal.loop-preserved
loop-preserved c = search (parts_cases, rules)

-- src/lib.rt:64:1
pub returns : goal.returns
returns c = search (parts_cases, rules)
