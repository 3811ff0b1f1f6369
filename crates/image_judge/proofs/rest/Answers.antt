use Rattle.lists.proofs.Passed.{passed}
use Rattle.image_judge.proofs.Laws.{rest_cases, keys_fault, segments_fault}
use Rattle.std.proofs.Common.{◌∙◌}
use Rattle.std.proofs.Common.{rules}
use Rattle.image_judge.proofs.rest.Goals as goal

-- src/lib.rt:95:13
pub returns-in_err-p : goal.returns-in_err-p
returns-in_err-p c = passed c.from_residual.ensures.1 ∙ keys_fault _ _ _ _ _ _ c.in_err-p.ensures

-- src/lib.rt:96:13
pub parts-requires : goal.parts-requires
parts-requires c = search (rest_cases, c.in_ok-p.ensures, rules)

-- src/lib.rt:96:13
pub returns-in_err-q : goal.returns-in_err-q
returns-in_err-q c = passed c.from_residual-in_err-q.ensures.1 ∙ segments_fault _ _ _ _ _ _ c.in_ok-p.ensures c.in_err-q.ensures

-- src/lib.rt:97:5
pub end-requires : goal.end-requires
end-requires c = search (rest_cases, c.in_ok-p.ensures, c.in_ok-q.ensures, rules)

-- src/lib.rt:91:1
pub returns : goal.returns
returns c = search (rest_cases, c.in_ok-p.ensures, c.in_ok-q.ensures, rules)
