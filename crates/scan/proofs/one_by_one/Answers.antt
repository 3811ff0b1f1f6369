use Rattle.scan.proofs.Laws.{scan_cases}
use Rattle.std.proofs.Common.{rules, ◌≡◌, ◌+◌, ◌-◌, ◌≤◌, length, ℕ, ◌*◌, ◌<◌, ◌/◌, ◌%◌, Bool, true, false, nat_eq, nat_lt, List, [], ◌∷◌, ◌++◌, slice_index_or, slice_set, bit_and, bit_or, Fits, w8, w32, w64, Bor, MutBor}
use Rattle.scan.specs.Scan.{lowest_of}
use Rattle.scan.specs.Eight.{ahead_of, Eighted}
use Rattle.scan.proofs.one_by_one.Goals as goal

-- src/lib.rt:53:5
pub loop-i-init : goal.loop-i-init
loop-i-init c = search (scan_cases, rules)

-- src/lib.rt:55:13
pub returns-then-cells-i : goal.returns-then-cells-i
returns-then-cells-i c = search (scan_cases, rules)

-- src/lib.rt:53:5
pub loop-i-preserved : goal.loop-i-preserved
loop-i-preserved c = search (scan_cases, rules)

-- src/lib.rt:49:1
pub returns : goal.returns
returns c = search (scan_cases, rules)
