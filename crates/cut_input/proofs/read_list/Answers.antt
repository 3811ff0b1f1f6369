use Rattle.std.proofs.Common.{rules}
use Rattle.lists.proofs.Passed.{passed}
use Rattle.cut_input.proofs.Laws.{list_cases, first_missing, second_missing, keys_missing}
use Rattle.cut_input.proofs.read_list.Goals as goal

pub returns-in_err-e-clause-answered : goal.returns-in_err-e-clause-answered
returns-in_err-e-clause-answered c = first_missing _ _ (passed c.from_residual.ensures.1) c.in_err-e.ensures.is

pub returns-in_err-e-clause-cells : goal.returns-in_err-e-clause-cells
returns-in_err-e-clause-cells c = search (list_cases, c.in_err-e.ensures.is, rules)

pub returns-in_err-b-clause-answered : goal.returns-in_err-b-clause-answered
returns-in_err-b-clause-answered c = second_missing _ _ c.in_ok-e.ensures.is (passed c.from_residual-in_err-b.ensures.1) c.in_err-b.ensures.is

pub returns-in_err-b-clause-cells : goal.returns-in_err-b-clause-cells
returns-in_err-b-clause-cells c = search (list_cases, c.in_ok-e.ensures.is, c.in_err-b.ensures.is, rules)

pub returns-in_err-n-clause-answered : goal.returns-in_err-n-clause-answered
returns-in_err-n-clause-answered c = keys_missing _ _ c.in_ok-e.ensures.is c.in_ok-b.ensures.is (passed c.from_residual-in_err-n.ensures.1) c.in_err-n.ensures.answered

pub returns-in_err-n-clause-cells : goal.returns-in_err-n-clause-cells
returns-in_err-n-clause-cells c = search (list_cases, c.in_ok-e.ensures.is, c.in_ok-b.ensures.is, c.read_keys.ensures.cells, rules)

pub returns-clause-answered : goal.returns-clause-answered
returns-clause-answered c = search (list_cases, c.in_ok-e.ensures.is, c.in_ok-b.ensures.is, c.in_ok-n.ensures.answered, rules)

pub returns-clause-cells : goal.returns-clause-cells
returns-clause-cells c = search (list_cases, c.in_ok-e.ensures.is, c.in_ok-b.ensures.is, c.read_keys.ensures.cells, rules)
