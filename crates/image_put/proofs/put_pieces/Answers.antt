use Rattle.std.proofs.Common.{rules}
use Rattle.image_put.proofs.Laws.{pieces_cases}
use Rattle.image_put.proofs.put_pieces.Goals as goal

pub loop-i-preserved : goal.loop-i-preserved
loop-i-preserved c = search (pieces_cases, rules)
