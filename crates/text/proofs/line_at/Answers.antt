use Rattle.text.proofs.Lines.{line_cases}
use Rattle.std.proofs.Common.{rules}
use Rattle.text.proofs.line_at.Goals as goal

-- src/lib.rt:47:9
pub returns-then-text-at-clause-is : goal.returns-then-text-at-clause-is
returns-then-text-at-clause-is c = search (line_cases, rules)

-- src/lib.rt:50:5
pub loop-n-init : goal.loop-n-init
loop-n-init c = search (line_cases, rules)

-- src/lib.rt:54:21
pub returns-then-n-eq0-clause-is : goal.returns-then-n-eq0-clause-is
returns-then-n-eq0-clause-is c = search (line_cases, rules)

-- src/lib.rt:56:17
pub returns-in-Newline-clause-is : goal.returns-in-Newline-clause-is
returns-in-Newline-clause-is c = search (line_cases, rules)

-- src/lib.rt:58:30
pub returns-in-Other-clause-is : goal.returns-in-Other-clause-is
returns-in-Other-clause-is c = search (line_cases, rules)

-- src/lib.rt:61:21
pub returns-then-n-ge-DIGITS_MOST-clause-is : goal.returns-then-n-ge-DIGITS_MOST-clause-is
returns-then-n-ge-DIGITS_MOST-clause-is c = search (line_cases, rules)

-- src/lib.rt:63:21
pub overflow_mul-v : goal.overflow_mul-v
overflow_mul-v c = search (line_cases, rules)

-- src/lib.rt:63:21
pub overflow_add-v : goal.overflow_add-v
overflow_add-v c = search (line_cases, rules)

-- src/lib.rt:50:5
pub loop-n-preserved : goal.loop-n-preserved
loop-n-preserved c = search (line_cases, rules)

-- src/lib.rt:41:1
pub returns-clause-is : goal.returns-clause-is
returns-clause-is c = search (line_cases, rules)
