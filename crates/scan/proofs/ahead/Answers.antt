use Rattle.std.proofs.Common.{rules}
use Rattle.scan.proofs.Eight.{ahead_cases}
use Rattle.scan.proofs.ahead.Goals as goal

pub returns-then-cells-i : goal.returns-then-cells-i
returns-then-cells-i c = search (ahead_cases, rules)

pub returns-then-cells-i-2 : goal.returns-then-cells-i-2
returns-then-cells-i-2 c = search (ahead_cases, rules)

pub returns-then-cells-i-3 : goal.returns-then-cells-i-3
returns-then-cells-i-3 c = search (ahead_cases, rules)

pub returns-then-cells-i-4 : goal.returns-then-cells-i-4
returns-then-cells-i-4 c = search (ahead_cases, rules)

pub returns : goal.returns
returns c = search (ahead_cases, rules)

pub overflow_add-result : goal.overflow_add-result
overflow_add-result c = search (ahead_cases, rules)
