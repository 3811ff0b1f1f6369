use Rattle.image_little.proofs.Laws.{fits_cases}
use Rattle.std.proofs.Common.{rules}
use Rattle.image_little.proofs.fits.Goals as goal

-- src/lib.rt:13:5
pub loop-init : goal.loop-init
loop-init c = search (fits_cases, rules)

-- src/lib.rt:13:5
pub loop-preserved : goal.loop-preserved
loop-preserved c = search (fits_cases, rules)

-- src/lib.rt:9:1
pub returns : goal.returns
returns c = search (fits_cases, rules)
