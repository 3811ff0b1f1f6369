use Rattle.cutting.proofs.Laws.{known_cases}
use Rattle.std.proofs.Common.{rules}
use Rattle.cutting.proofs.write_known.Goals as goal

-- src/lib.rt:95:16
pub overflow_sub-last : goal.overflow_sub-last
overflow_sub-last c = search (known_cases, rules)

-- src/lib.rt:97:5
pub loop-n-init : goal.loop-n-init
loop-n-init c = search (known_cases, rules)

-- src/lib.rt:98:31
pub offset_bounds-keys-i : goal.offset_bounds-keys-i
offset_bounds-keys-i c = search (known_cases, rules)

-- src/lib.rt:98:31
pub slice_bounds-first_size-count : goal.slice_bounds-first_size-count
slice_bounds-first_size-count c = search (known_cases, rules)

-- src/lib.rt:98:31
pub slice_bounds-first_size-start : goal.slice_bounds-first_size-start
slice_bounds-first_size-start c = search (known_cases, rules)

-- src/lib.rt:98:13
pub first_size-c-requires : goal.first_size-c-requires
first_size-c-requires c = search (known_cases, rules)

-- src/lib.rt:99:9
pub close-requires : goal.close-requires
close-requires c = search (known_cases, rules)

-- src/lib.rt:100:9
pub overflow_add-i : goal.overflow_add-i
overflow_add-i c = search (known_cases, rules)

-- src/lib.rt:97:5
pub loop-n-preserved : goal.loop-n-preserved
loop-n-preserved c = search (known_cases, rules)

-- src/lib.rt:102:20
pub overflow_sub-keys : goal.overflow_sub-keys
overflow_sub-keys c = search (known_cases, rules)

-- src/lib.rt:102:5
pub close-requires-2 : goal.close-requires-2
close-requires-2 c = search (known_cases, rules)

-- src/lib.rt:91:1
pub returns : goal.returns
returns c = search (known_cases, rules)
