use Rattle.std.proofs.Common.{rules}
use Rattle.cut_input.proofs.Laws.{keys_cases}
use Rattle.cut_input.proofs.read_keys.Goals as goal

pub returns-in-End-clause-cells : goal.returns-in-End-clause-cells
returns-in-End-clause-cells c = search (keys_cases, rules)

pub returns-in-Bad-clause-cells : goal.returns-in-Bad-clause-cells
returns-in-Bad-clause-cells c = search (keys_cases, rules)

pub loop-k-preserved : goal.loop-k-preserved
loop-k-preserved c = search (keys_cases, rules)

pub returns-in-Number-line_at-clause-answered : goal.returns-in-Number-line_at-clause-answered
returns-in-Number-line_at-clause-answered c = search (keys_cases, rules)
