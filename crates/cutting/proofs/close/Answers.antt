use Rattle.std.proofs.Common.{rules}
use Rattle.cutting.proofs.Laws.{row_written}
use Rattle.cutting.proofs.close.Goals as goal

pub returns : goal.returns
returns c = search (row_written, rules)
