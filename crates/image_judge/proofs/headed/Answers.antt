use Rattle.lists.proofs.Passed.{passed}
use Rattle.image_judge.proofs.Laws.{fault_named, headed_fault}
use Rattle.std.proofs.Common.{◌∙◌, ap, Err}
use Rattle.image_judge.proofs.Laws.{headed_cases}
use Rattle.std.proofs.Common.{rules}
use Rattle.image_judge.proofs.headed.Goals as goal

-- src/lib.rt:127:9
pub returns-then-not-counted : goal.returns-then-not-counted
returns-then-not-counted c = search (headed_cases, rules)

-- src/lib.rt:129:5
pub returns-in_err-map_err : goal.returns-in_err-map_err
returns-in_err-map_err c =
    let h : _ = fault_named c.map_err.ensures.cases c.in_err-map_err.was in
    passed c.from_residual.ensures.1 ∙ ap Err h.2 ∙ headed_fault _ _ _ c.counted.ensures c.if-not-counted.false c.rest.ensures h.1

-- src/lib.rt:122:1
pub returns : goal.returns
returns c = search (headed_cases, rules)
