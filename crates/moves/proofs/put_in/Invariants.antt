use Rattle.moves.specs.Copy.{Pasting}
use Rattle.moves.proofs.Copy.{in_cases}
use Rattle.std.proofs.Common.{◌≡◌, ◌++◌, ◌+◌, ◌*◌, length, take, drop, ℕ, ◌-◌, ◌<◌, ◌≤◌}
use Rattle.std.proofs.Math.Seq.{paste}
use Rattle.moves.specs.Copy.{Stretch}
use Rattle.lists.specs.Moved.{moved}
use Rattle.moves.specs.Shift.{Movable, Moving}
use Rattle.moves.specs.Tail.{Raisable, raised, Tail, raised_up}
use Rattle.moves.specs.Slots.{Liftable, held_of, lifted}
use Rattle.moves.proofs.put_in.Given as goal

abbrev pub invariant-loop-j : goal.invariant-loop-j
invariant-loop-j l = Pasting l.initial.s l.b l.c l.s l.j
