use Rattle.image_little.proofs.Laws.{Got}
use Rattle.image_little.proofs.get.Given as goal

abbrev pub invariant-loop-i : goal.invariant-loop-i
invariant-loop-i l = Got l.src l.at l.width l.i l.v
