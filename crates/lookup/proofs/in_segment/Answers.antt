use Rattle.lookup.proofs.Laws.{in_segment_cases}
use Rattle.std.proofs.Common.{rules, ◌≡◌, ℕ, ◌+◌, ◌-◌, ◌*◌, ◌<◌, ◌≤◌, length, ◌/◌, ◌%◌, Bool, true, false, nat_eq, nat_lt, List, [], ◌∷◌, ◌++◌, slice_index_or, slice_set, bit_and, bit_or, Fits, w8, w32, w64, Bor, MutBor}
use Rattle.table.specs.Store.{store_in}
use Rattle.lookup.specs.Lookup.{Asked, buffered_of, searched_of, lookup_of}
use Rattle.lookup.proofs.in_segment.Goals as goal

-- src/lib.rt:32:9
pub find-requires : goal.find-requires
find-requires c = search (in_segment_cases, rules)

-- src/lib.rt:35:22
pub overflow_add-at : goal.overflow_add-at
overflow_add-at c = search (in_segment_cases, rules)

-- src/lib.rt:27:1
pub returns-in-Some : goal.returns-in-Some
returns-in-Some c = search (in_segment_cases, rules)

-- src/lib.rt:27:1
pub returns-in-None : goal.returns-in-None
returns-in-None c = search (in_segment_cases, rules)
