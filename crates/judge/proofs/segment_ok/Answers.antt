use Rattle.judge.proofs.Laws.{segment_cases}
use Rattle.std.proofs.Common.{rules}
use Rattle.judge.proofs.segment_ok.Goals as goal

-- src/lib.rt:80:5
pub kept-requires : goal.kept-requires
kept-requires c = search (segment_cases, rules)
