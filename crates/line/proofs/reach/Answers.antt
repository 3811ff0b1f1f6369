use Rattle.line.proofs.Laws.{reach_cases}
use Rattle.std.proofs.Common.{rules, ◌≡◌, ◌+◌, ◌-◌, min, ℕ, ◌*◌, ◌<◌, ◌≤◌, length, ◌/◌, ◌%◌, Bool, true, false, nat_eq, nat_lt, List, [], ◌∷◌, ◌++◌, slice_index_or, slice_set, bit_and, bit_or, Fits, w8, w32, w64, Bor, MutBor}
use Rattle.line.specs.Line.{Lined, Reaching, guess_of, near_of, window_of, reach_of}
use Rattle.line.proofs.reach.Goals as goal

-- src/lib.rt:76:22
pub overflow_sub-up : goal.overflow_sub-up
overflow_sub-up c = search (reach_cases, rules)

-- src/lib.rt:69:1
pub returns-in-None : goal.returns-in-None
returns-in-None c = search (reach_cases, rules)

-- src/lib.rt:69:1
pub returns-in-Some : goal.returns-in-Some
returns-in-Some c = search (reach_cases, rules)
