use Rattle.text.proofs.Lines.{Reading}
use Rattle.text.proofs.line_at.Given as goal

abbrev pub invariant-loop-n : goal.invariant-loop-n
invariant-loop-n l = Reading l.text l.rest l.at l.v l.n
