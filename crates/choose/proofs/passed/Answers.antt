use Rattle.std.proofs.Common.{rules}
use Rattle.choose.proofs.Descent.{passed_cases}
use Rattle.choose.proofs.passed.Goals as goal

pub returns-then-table-at : goal.returns-then-table-at
returns-then-table-at c = search (passed_cases, rules)

pub returns-then-table-at-2 : goal.returns-then-table-at-2
returns-then-table-at-2 c = search (passed_cases, rules)

pub returns-then-table-at-3 : goal.returns-then-table-at-3
returns-then-table-at-3 c = search (passed_cases, rules)

pub returns-then-table-at-4 : goal.returns-then-table-at-4
returns-then-table-at-4 c = search (passed_cases, rules)

pub returns : goal.returns
returns c = search (passed_cases, rules)
