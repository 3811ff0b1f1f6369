use Rattle.scan.specs.Scan.{fails_of}
use Rattle.std.proofs.Common.{◌-◌}
use Rattle.std.proofs.Common.{◌≡◌, ◌-◌}
use Rattle.build_keys.specs.Faults.{good_of, fault_of}
use Rattle.build_keys.proofs.lowest_fault.Given as goal

abbrev pub invariant-loop-p : goal.invariant-loop-p
invariant-loop-p l = fault_of l.keys l.n ≡ fails_of (good_of l.keys) l.p (l.n - l.p)
