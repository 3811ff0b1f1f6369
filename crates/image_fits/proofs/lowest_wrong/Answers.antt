use Rattle.image_fits.proofs.Laws.{entries_cases}
use Rattle.std.proofs.Common.{rules}
use Rattle.image_fits.proofs.lowest_wrong.Goals as goal

-- src/lib.rt:57:5
pub loop-i-init : goal.loop-i-init
loop-i-init c = search (entries_cases, rules)

-- src/lib.rt:59:13
pub returns-then-not-entry_fits : goal.returns-then-not-entry_fits
returns-then-not-entry_fits c = search (entries_cases, rules)

-- src/lib.rt:57:5
pub loop-i-preserved : goal.loop-i-preserved
loop-i-preserved c = search (entries_cases, rules)

-- src/lib.rt:53:1
pub returns : goal.returns
returns c = search (entries_cases, rules)
