use Rattle.scan.specs.Scan.{fails_of}
use Rattle.std.proofs.Common.{◌≡◌, ◌-◌}
use Rattle.insert_decide.specs.Decided.{passes_of, later_of}
use Rattle.insert_decide.proofs.lowest_later.Given as goal

abbrev pub invariant-loop-j : goal.invariant-loop-j
invariant-loop-j l = later_of l.z.b l.z.n l.z.s l.table l.i ≡ fails_of (passes_of l.z.b l.z.n l.table) l.j (l.z.s - l.j)
