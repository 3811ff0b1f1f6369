use Rattle.std.proofs.Common.{rules}
use Rattle.cut_output.proofs.Laws.{byte_cases}
use Rattle.cut_output.proofs.Sheet.byte.Goals as goal

pub returns-clause-written : goal.returns-clause-written
returns-clause-written c = search (byte_cases, rules)
