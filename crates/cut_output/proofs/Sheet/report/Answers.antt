use Rattle.std.proofs.Common.{rules}
use Rattle.cut_output.proofs.Laws.{report_cases}
use Rattle.cut_output.proofs.Sheet.report.Goals as goal

pub cells-requires : goal.cells-requires
cells-requires c = search (report_cases, rules)

pub returns-clause-past : goal.returns-clause-past
returns-clause-past c = search (report_cases, rules)

pub returns-clause-written : goal.returns-clause-written
returns-clause-written c = search (report_cases, rules)
