use Rattle.image_fits.proofs.Laws.{entry_cases}
use Rattle.std.proofs.Common.{rules}
use Rattle.image_fits.proofs.entry_fits.Goals as goal

-- src/lib.rt:46:9
pub returns-then-not-fields_fit : goal.returns-then-not-fields_fit
returns-then-not-fields_fit c = search (entry_cases, rules)

-- src/lib.rt:39:1
pub returns : goal.returns
returns c = search (entry_cases, rules)
