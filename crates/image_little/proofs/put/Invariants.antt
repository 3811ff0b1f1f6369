use Rattle.lists.specs.Over.{Writing}
use Rattle.std.proofs.Common.{◌+◌, ◌-◌}
use Rattle.image_little.specs.Little.{number_bytes}
use Rattle.image_little.proofs.put.Given as goal

abbrev pub invariant-loop-i : goal.invariant-loop-i
invariant-loop-i l = Writing l.initial.dst l.at (number_bytes l.width l.x) l.dst (l.at + l.i) (number_bytes (l.width - l.i) l.v)
