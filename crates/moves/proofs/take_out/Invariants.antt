use Rattle.moves.specs.Copy.{Pasting}
use Rattle.moves.proofs.Copy.{out_cases}
use Rattle.std.proofs.Common.{◌≡◌, ◌++◌, ◌+◌, ◌*◌, length, take, drop, ℕ, ◌-◌, ◌<◌, ◌≤◌}
use Rattle.std.proofs.Math.Seq.{paste}
use Rattle.moves.specs.Copy.{Stretch}
use Rattle.lists.specs.Moved.{moved}
use Rattle.moves.specs.Shift.{Movable, Moving}
use Rattle.moves.specs.Tail.{Raisable, raised, Tail, raised_up}
use Rattle.moves.specs.Slots.{Liftable, held_of, lifted}
use Rattle.moves.proofs.take_out.Given as goal

abbrev pub invariant-loop-j : goal.invariant-loop-j
invariant-loop-j l = Pasting l.initial.c 0 (drop l.a l.s) l.c l.j
