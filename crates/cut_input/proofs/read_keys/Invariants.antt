use Rattle.cut_input.proofs.Laws.{Taking}
use Rattle.cut_input.proofs.read_keys.Given as goal

abbrev pub invariant-loop-k : goal.invariant-loop-k
invariant-loop-k l = Taking l.text l.at l.initial.keys l.keys l.p l.k
