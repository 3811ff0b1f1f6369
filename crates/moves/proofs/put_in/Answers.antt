use Rattle.moves.specs.Copy.{Pasting}
use Rattle.moves.proofs.Copy.{in_cases}
use Rattle.std.proofs.Common.{rules, ◌≡◌, ◌++◌, ◌+◌, ◌*◌, length, take, drop, ℕ, ◌-◌, ◌<◌, ◌≤◌, ◌/◌, ◌%◌, Bool, true, false, nat_eq, nat_lt, List, [], ◌∷◌, slice_index_or, slice_set, bit_and, bit_or, Fits, w8, w32, w64, Bor, MutBor}
use Rattle.std.proofs.Math.Seq.{paste}
use Rattle.moves.specs.Copy.{Stretch}
use Rattle.lists.specs.Moved.{moved}
use Rattle.moves.specs.Shift.{Movable, Moving}
use Rattle.moves.specs.Tail.{Raisable, raised, Tail, raised_up}
use Rattle.moves.specs.Slots.{Liftable, held_of, lifted}
use Rattle.moves.proofs.put_in.Goals as goal

-- src/lib.rt:27:5
pub loop-j-init : goal.loop-j-init
loop-j-init c = search (in_cases, rules)

-- src/lib.rt:27:5
pub loop-j-preserved : goal.loop-j-preserved
loop-j-preserved c = search (in_cases, rules)

-- src/lib.rt:23:1
pub returns : goal.returns
returns c = search (in_cases, rules)
