use Rattle.std.proofs.Common.{◌≡◌, ◌-◌}
use Rattle.scan.specs.Scan.{fails_of}
use Rattle.image_fits.specs.Fits.{entry_fits}
use Rattle.image_fits.proofs.lowest_wrong.Given as goal

abbrev pub invariant-loop-i : goal.invariant-loop-i
invariant-loop-i l = fails_of (entry_fits l.z.b l.table l.buffers) 0 (l.z.s - 0) ≡ fails_of (entry_fits l.z.b l.table l.buffers) l.i (l.z.s - l.i)
