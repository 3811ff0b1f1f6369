use Rattle.scan.proofs.Eight.{eight_cases}
use Rattle.std.proofs.Common.{rules, ◌≡◌, ◌+◌, ◌-◌, ◌≤◌, length, ℕ, ◌*◌, ◌<◌, ◌/◌, ◌%◌, Bool, true, false, nat_eq, nat_lt, List, [], ◌∷◌, ◌++◌, slice_index_or, slice_set, bit_and, bit_or, Fits, w8, w32, w64, Bor, MutBor}
use Rattle.scan.specs.Scan.{lowest_of}
use Rattle.scan.specs.Eight.{ahead_of, Eighted}
use Rattle.scan.proofs.by_eight.Goals as goal

-- src/lib.rt:71:5
pub loop-i-init : goal.loop-i-init
loop-i-init c = search (eight_cases, rules)

-- src/lib.rt:74:13
pub returns-then-j-lt8 : goal.returns-then-j-lt8
returns-then-j-lt8 c = search (eight_cases, rules)

-- src/lib.rt:71:5
pub loop-i-preserved : goal.loop-i-preserved
loop-i-preserved c = search (eight_cases, rules)

-- src/lib.rt:65:1
pub returns : goal.returns
returns c = search (eight_cases, rules)
