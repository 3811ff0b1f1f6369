use Rattle.std.proofs.Common.{rules}
use Rattle.cut_program.proofs.Laws.{run_cases}
use Rattle.cut_program.proofs.run.Goals as goal

pub returns-in-Ok-clause-short : goal.returns-in-Ok-clause-short
returns-in-Ok-clause-short c = search (run_cases, rules)

pub returns-in-Err-clause-short : goal.returns-in-Err-clause-short
returns-in-Err-clause-short c = search (run_cases, rules)
