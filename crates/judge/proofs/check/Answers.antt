use Rattle.judge.proofs.Laws.{check_cases}
use Rattle.std.proofs.Common.{rules}
use Rattle.judge.proofs.check.Goals as goal

-- src/lib.rt:90:13
pub segment_ok-requires : goal.segment_ok-requires
segment_ok-requires c = search (check_cases, c.in_ok-within.ensures, rules)

-- src/lib.rt:91:13
pub returns-then-not-segment_ok : goal.returns-then-not-segment_ok
returns-then-not-segment_ok c = search (check_cases, c.in_ok-within.ensures, rules)
