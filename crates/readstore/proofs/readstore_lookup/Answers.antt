use Rattle.readstore.proofs.Laws.{lookup_answered}
use Rattle.readstore.proofs.readstore_lookup.Goals as goal

pub returns : goal.returns
returns c = lookup_answered _ _ c.lent.ensures _ c.lookup-a.ensures c.answer_numbers.ensures
