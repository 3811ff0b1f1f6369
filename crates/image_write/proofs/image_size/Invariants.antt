use Rattle.image_write.specs.Asks.{Sizing}
use Rattle.image_write.proofs.image_size.Given as goal

abbrev pub invariant-loop-i : goal.invariant-loop-i
invariant-loop-i l = Sizing l.fn.z.s l.table l.initial.p l.p l.i
