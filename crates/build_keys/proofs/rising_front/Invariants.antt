use Rattle.build_keys.proofs.Fronts.{Fronting}
use Rattle.std.proofs.Common.{◌-◌}
use Rattle.build_keys.proofs.rising_front.Given as goal

abbrev pub invariant-loop-p : goal.invariant-loop-p
invariant-loop-p l = Fronting l.keys l.n l.p

abbrev pub decreases-loop-p : goal.decreases-loop-p
decreases-loop-p l = l.n - l.p
