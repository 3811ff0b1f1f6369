use Rattle.range_stretch.proofs.Laws.{tally_cases}
use Rattle.std.proofs.Common.{rules}
use Rattle.range_stretch.proofs.tally.Goals as goal

-- src/lib.rt:29:1
pub returns-then-within : goal.returns-then-within
returns-then-within c = search (tally_cases, rules)

-- src/lib.rt:29:1
pub returns-else-within : goal.returns-else-within
returns-else-within c = search (tally_cases, rules)
