use Rattle.text.proofs.Decimal.{Putting}
use Rattle.text.proofs.put_number.Given as goal

abbrev pub invariant-loop-p : goal.invariant-loop-p
invariant-loop-p l = Putting l.initial.out l.at l.x l.past l.out l.v l.p
