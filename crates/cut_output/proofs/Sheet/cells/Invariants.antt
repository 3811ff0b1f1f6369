use Rattle.std.proofs.Common.{◌≡◌}
use Rattle.cut_output.proofs.Laws.{Celling}
use Rattle.cut_output.proofs.Sheet.cells.Given as goal

abbrev pub invariant-loop-p : goal.invariant-loop-p
invariant-loop-p l = record {
  same : l.self.out.ghost_name ≡ l.initial.self.out.ghost_name;
  cells : Celling l.initial.self.out.now l.initial.self.at l.table l.self.out.now l.p l.self.at;
}
