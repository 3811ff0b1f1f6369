use Rattle.moves.proofs.Shift.{block_cases}
use Rattle.std.proofs.Common.{rules, ◌≡◌, ◌++◌, ◌+◌, ◌*◌, length, take, drop, ℕ, ◌-◌, ◌<◌, ◌≤◌, ◌/◌, ◌%◌, Bool, true, false, nat_eq, nat_lt, List, [], ◌∷◌, slice_index_or, slice_set, bit_and, bit_or, Fits, w8, w32, w64, Bor, MutBor}
use Rattle.std.proofs.Math.Seq.{paste}
use Rattle.moves.specs.Copy.{Stretch}
use Rattle.lists.specs.Moved.{moved}
use Rattle.moves.specs.Shift.{Movable, Moving}
use Rattle.moves.specs.Tail.{Raisable, raised, Tail, raised_up}
use Rattle.moves.specs.Slots.{Liftable, held_of, lifted}
use Rattle.moves.proofs.move_block.Goals as goal

-- src/lib.rt:35:1
pub returns : goal.returns
returns c = search (block_cases, rules)
