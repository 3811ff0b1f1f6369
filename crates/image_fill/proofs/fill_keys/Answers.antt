use Rattle.image_fill.proofs.Laws.{fill_start, fill_turn}
use Rattle.image_fill.proofs.fill_keys.Goals as goal

pub loop-k-init : goal.loop-k-init
loop-k-init c = search (fill_start, c.requires)

pub loop-k-preserved : goal.loop-k-preserved
loop-k-preserved c = search (fill_turn, c.loop-k.invariant, c.loop-k-test.true, c.get.ensures)
