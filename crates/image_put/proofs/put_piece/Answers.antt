use Rattle.std.proofs.Common.{rules}
use Rattle.image_put.proofs.Laws.{piece_cases}
use Rattle.image_put.proofs.put_piece.Goals as goal

pub put_segment-p-requires : goal.put_segment-p-requires
put_segment-p-requires c = search (piece_cases, rules)

pub returns-clause-place : goal.returns-clause-place
returns-clause-place c = search (piece_cases, rules)

pub returns-clause-cells : goal.returns-clause-cells
returns-clause-cells c = search (piece_cases, rules)
