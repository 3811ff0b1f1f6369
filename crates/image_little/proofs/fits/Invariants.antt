use Rattle.std.proofs.Common.{◌≡◌, ◌^◌, ltb, ◌-◌}
use Rattle.image_little.proofs.fits.Given as goal

abbrev pub invariant-loop : goal.invariant-loop
invariant-loop l = ltb l.v (256 ^ (l.width - l.counter)) ≡ ltb l.x (256 ^ l.width)
