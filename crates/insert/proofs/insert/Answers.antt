use Rattle.lists.proofs.Passed.{passed}
use Rattle.insert.proofs.Due.{refuse_answered}
use Rattle.insert.proofs.insert.Goals as goal

-- src/lib.rt:60:19
pub returns-in_err-decided-clause-answered : goal.returns-in_err-decided-clause-answered
returns-in_err-decided-clause-answered c = refuse_answered _ _ _ _ _ (passed c.from_residual.ensures.1) c.in_err-decided.ensures
