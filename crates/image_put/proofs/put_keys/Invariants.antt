use Rattle.image_put.proofs.Laws.{KeysFrom}
use Rattle.image_put.proofs.put_keys.Given as goal

abbrev pub invariant-loop-x : goal.invariant-loop-x
invariant-loop-x l = KeysFrom l.initial.dst l.at l.kind l.cells l.dst l.p l.x-index
