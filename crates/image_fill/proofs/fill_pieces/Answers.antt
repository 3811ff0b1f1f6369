use Rattle.image_fill.proofs.Laws.{filling_start, piece_asks, filling_turn, filling_rows, filling_slots}
use Rattle.image_fill.proofs.fill_pieces.Goals as goal

pub loop-i-init : goal.loop-i-init
loop-i-init c = search (filling_start, c.requires)

pub fill_piece-p-requires : goal.fill_piece-p-requires
fill_piece-p-requires c = search (piece_asks, c.loop-i.invariant, c.loop-i-test.true, c.requires)

pub loop-i-preserved : goal.loop-i-preserved
loop-i-preserved c = search (filling_turn, c.loop-i.invariant, c.loop-i-test.true, c.fill_piece-p.ensures.place, c.fill_piece-p.ensures.table, c.fill_piece-p.ensures.buffers)

pub returns-clause-table : goal.returns-clause-table
returns-clause-table c = search (filling_rows, c.loop-i.invariant, c.loop-i-test.false)

pub returns-clause-buffers : goal.returns-clause-buffers
returns-clause-buffers c = search (filling_slots, c.loop-i.invariant, c.loop-i-test.false)
