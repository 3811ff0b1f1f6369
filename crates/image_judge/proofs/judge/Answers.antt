use Rattle.image_judge.proofs.Laws.{edition_cases}
use Rattle.std.proofs.Common.{rules}
use Rattle.image_judge.proofs.judge.Goals as goal

-- src/lib.rt:162:5
pub judge_by-requires : goal.judge_by-requires
judge_by-requires c = search (edition_cases, rules)
