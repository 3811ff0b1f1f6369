use Rattle.image_records.proofs.Five.{five_cases}
use Rattle.std.proofs.Common.{rules, ◌≡◌, ◌*◌, ℕ, ◌+◌, ◌-◌, ◌<◌, ◌≤◌, length, ◌/◌, ◌%◌, Bool, true, false, nat_eq, nat_lt, List, [], ◌∷◌, ◌++◌, slice_index_or, slice_set, bit_and, bit_or, Fits, w8, w32, w64, Bor, MutBor}
use Rattle.lists.specs.Over.{over, Space}
use Rattle.image_records.specs.Fields.{fields_of}
use Rattle.image_records.specs.Stores.{row_in}
use Rattle.image_records.proofs.Fields.put.Goals as goal

-- src/lib.rt:55:5
pub returns : goal.returns
returns c = search (five_cases, rules)
