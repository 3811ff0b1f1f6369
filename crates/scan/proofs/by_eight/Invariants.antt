use Rattle.scan.proofs.Eight.{eight_cases}
use Rattle.std.proofs.Common.{◌+◌, ◌-◌, ◌≡◌, ◌≤◌, length, ℕ, ◌*◌, ◌<◌}
use Rattle.scan.specs.Scan.{lowest_of}
use Rattle.scan.specs.Eight.{ahead_of, Eighted}
use Rattle.scan.proofs.by_eight.Given as goal

abbrev pub invariant-loop-i : goal.invariant-loop-i
invariant-loop-i l = lowest_of l.cells l.from (l.to - l.from) l.k ≡ lowest_of l.cells l.i (l.to - l.i) l.k

-- proposed from the loop's first test
abbrev pub decreases-loop-i : goal.decreases-loop-i
decreases-loop-i l = l.to - l.i
