use Rattle.scan.specs.Scan.{fails_of}
use Rattle.std.proofs.Common.{◌≡◌, ◌-◌}
use Rattle.table.specs.Store.{store_in}
use Rattle.judge.specs.Check.{rules_of}
use Rattle.judge.proofs.check.Given as goal

abbrev pub invariant-loop-i : goal.invariant-loop-i
invariant-loop-i l =
    fails_of (rules_of (store_in l.store)) 0 (l.store.sizes.s - 0) ≡ fails_of (rules_of (store_in l.store)) l.i (l.store.sizes.s - l.i)
