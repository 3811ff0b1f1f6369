use Rattle.std.proofs.Common.{rules}
use Rattle.cut_output.proofs.Laws.{word_cases}
use Rattle.cut_output.proofs.Sheet.word.Goals as goal

pub returns-clause-written : goal.returns-clause-written
returns-clause-written c = search (word_cases, rules)
