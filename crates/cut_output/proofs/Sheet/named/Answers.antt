use Rattle.std.proofs.Common.{rules}
use Rattle.cut_output.proofs.Laws.{named_cases}
use Rattle.cut_output.proofs.Sheet.named.Goals as goal

pub number-requires : goal.number-requires
number-requires c = search (named_cases, rules)

pub returns-clause-past : goal.returns-clause-past
returns-clause-past c = search (named_cases, rules)

pub returns-clause-written : goal.returns-clause-written
returns-clause-written c = search (named_cases, rules)
