use Rattle.lists.proofs.Passed.{passed}
use Rattle.lookup.proofs.Laws.{lookup_cases, unlimited, keyless, unpicked}
use Rattle.std.proofs.Common.{rules, ◌≡◌, ℕ, ◌+◌, ◌-◌, ◌*◌, ◌<◌, ◌≤◌, length, ◌/◌, ◌%◌, Bool, true, false, nat_eq, nat_lt, List, [], ◌∷◌, ◌++◌, slice_index_or, slice_set, bit_and, bit_or, Fits, w8, w32, w64, Bor, MutBor}
use Rattle.table.specs.Store.{store_in}
use Rattle.lookup.specs.Lookup.{Asked, buffered_of, searched_of, lookup_of}
use Rattle.lookup.proofs.lookup.Goals as goal

-- src/lib.rt:46:5
pub returns-in_err-within : goal.returns-in_err-within
returns-in_err-within c = unlimited _ _ (passed c.from_residual.ensures.1) c.in_err-within.ensures

-- src/lib.rt:47:15
pub returns-in_err-key : goal.returns-in_err-key
returns-in_err-key c = keyless _ _ (passed c.from_residual-in_err-key.ensures.1) c.in_ok-within.ensures c.in_err-key.ensures

-- src/lib.rt:49:18
pub pick_segment-requires : goal.pick_segment-requires
pick_segment-requires c = search (lookup_cases, c.in_ok-within.ensures, rules)

-- src/lib.rt:49:18
pub returns-in_err-i : goal.returns-in_err-i
returns-in_err-i c = unpicked _ _ (passed c.from_residual-in_err-i.ensures.1) c.in_ok-within.ensures c.in_ok-key.ensures c.in_err-i.ensures

-- src/lib.rt:50:9
pub run_of-run-requires : goal.run_of-run-requires
run_of-run-requires c = search (lookup_cases, c.in_ok-within.ensures, c.in_ok-key.ensures, c.in_ok-i.ensures, rules)

-- src/lib.rt:51:9
pub used_of-used-requires : goal.used_of-used-requires
used_of-used-requires c = search (lookup_cases, c.in_ok-within.ensures, c.in_ok-key.ensures, c.in_ok-i.ensures, rules)

-- src/lib.rt:52:8
pub in_segment-requires : goal.in_segment-requires
in_segment-requires c = search (lookup_cases, c.in_ok-within.ensures, c.in_ok-key.ensures, c.in_ok-i.ensures, rules)

-- src/lib.rt:43:1
pub returns : goal.returns
returns c = search (lookup_cases, c.in_ok-within.ensures, c.in_ok-key.ensures, c.in_ok-i.ensures, rules)
