use Rattle.image_fill.proofs.Laws.{Keying}
use Rattle.image_fill.proofs.fill_keys.Given as goal

abbrev pub invariant-loop-k : goal.invariant-loop-k
invariant-loop-k l = Keying l.bytes l.at l.initial.cells l.to l.count l.cells l.k
