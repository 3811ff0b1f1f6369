use Rattle.std.proofs.Common.{rules}
use Rattle.cut_output.proofs.Laws.{counts_cases}
use Rattle.cut_output.proofs.Sheet.counts.Goals as goal

pub named-requires-2 : goal.named-requires-2
named-requires-2 c = search (counts_cases, rules)

pub named-requires-3 : goal.named-requires-3
named-requires-3 c = search (counts_cases, rules)

pub named-requires-4 : goal.named-requires-4
named-requires-4 c = search (counts_cases, rules)

pub byte-requires : goal.byte-requires
byte-requires c = search (counts_cases, rules)

pub returns-clause-past : goal.returns-clause-past
returns-clause-past c = search (counts_cases, rules)

pub returns-clause-written : goal.returns-clause-written
returns-clause-written c = search (counts_cases, rules)
