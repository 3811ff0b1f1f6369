use Rattle.image_fits.proofs.Laws.{run_cases}
use Rattle.std.proofs.Common.{rules}
use Rattle.image_fits.proofs.run_wrong.Goals as goal

-- src/lib.rt:75:1
pub returns-then-keys_fit : goal.returns-then-keys_fit
returns-then-keys_fit c = search (run_cases, rules)

-- src/lib.rt:75:1
pub returns-else-keys_fit : goal.returns-else-keys_fit
returns-else-keys_fit c = search (run_cases, rules)
