use Rattle.lookup.proofs.Laws.{in_used_cases}
use Rattle.std.proofs.Common.{rules, ◌≡◌, ℕ, ◌+◌, ◌-◌, ◌*◌, ◌<◌, ◌≤◌, length, ◌/◌, ◌%◌, Bool, true, false, nat_eq, nat_lt, List, [], ◌∷◌, ◌++◌, slice_index_or, slice_set, bit_and, bit_or, Fits, w8, w32, w64, Bor, MutBor}
use Rattle.table.specs.Store.{store_in}
use Rattle.lookup.specs.Lookup.{Asked, buffered_of, searched_of, lookup_of}
use Rattle.lookup.proofs.in_used.Goals as goal

-- src/lib.rt:13:1
pub returns-in-Some : goal.returns-in-Some
returns-in-Some c = search (in_used_cases, rules)

-- src/lib.rt:13:1
pub returns-in-None : goal.returns-in-None
returns-in-None c = search (in_used_cases, rules)
