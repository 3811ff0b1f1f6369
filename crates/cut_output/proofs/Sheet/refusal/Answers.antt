use Rattle.std.proofs.Common.{rules}
use Rattle.cut_output.proofs.Laws.{refusal_cases}
use Rattle.cut_output.proofs.Sheet.refusal.Goals as goal

pub named-requires : goal.named-requires
named-requires c = search (refusal_cases, rules)

pub named-requires-2 : goal.named-requires-2
named-requires-2 c = search (refusal_cases, rules)

pub byte-requires : goal.byte-requires
byte-requires c = search (refusal_cases, rules)

pub returns-clause-past : goal.returns-clause-past
returns-clause-past c = search (refusal_cases, rules)

pub returns-clause-written : goal.returns-clause-written
returns-clause-written c = search (refusal_cases, rules)
