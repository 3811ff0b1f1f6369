use Rattle.image_fits.proofs.Laws.{wrong_cases}
use Rattle.std.proofs.Common.{rules}
use Rattle.image_fits.proofs.wrong.Goals as goal

-- src/lib.rt:66:1
pub returns-in-Some : goal.returns-in-Some
returns-in-Some c = search (wrong_cases, rules)

-- src/lib.rt:66:1
pub returns-in-None : goal.returns-in-None
returns-in-None c = search (wrong_cases, rules)
