use Rattle.range_stretch.proofs.Laws.{put_key_cases}
use Rattle.std.proofs.Common.{rules}
use Rattle.range_stretch.proofs.put_key.Goals as goal

-- src/lib.rt:124:9
pub bounds-out-at : goal.bounds-out-at
bounds-out-at c = search (put_key_cases, rules)

-- src/lib.rt:117:1
pub returns-then-within-clause-next : goal.returns-then-within-clause-next
returns-then-within-clause-next c = search (put_key_cases, rules)

-- src/lib.rt:117:1
pub returns-else-within-clause-next : goal.returns-else-within-clause-next
returns-else-within-clause-next c = search (put_key_cases, rules)
