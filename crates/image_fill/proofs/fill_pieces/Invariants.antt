use Rattle.std.proofs.Common.{◌-◌}
use Rattle.image_fill.specs.Filling.{Filling}
use Rattle.image_fill.proofs.fill_pieces.Given as goal

abbrev pub invariant-loop-i : goal.invariant-loop-i
invariant-loop-i l = Filling l.bytes l.at l.b l.initial.table l.initial.buffers l.s l.table l.buffers l.p l.i (l.s - l.i)
