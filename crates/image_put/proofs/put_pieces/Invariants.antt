use Rattle.image_put.proofs.Laws.{PiecesFrom}
use Rattle.image_put.proofs.put_pieces.Given as goal

abbrev pub invariant-loop-i : goal.invariant-loop-i
invariant-loop-i l = PiecesFrom l.initial.dst l.at l.b l.table l.buffers l.s l.dst l.p l.i
