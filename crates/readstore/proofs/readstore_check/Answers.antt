use Rattle.readstore.proofs.Laws.{check_answered}
use Rattle.readstore.proofs.readstore_check.Goals as goal

pub returns : goal.returns
returns c = check_answered _ _ c.lent.ensures c.check-a.ensures c.answer_numbers.ensures
