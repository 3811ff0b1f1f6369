use Rattle.std.proofs.Common.{rules}
use Rattle.cut_output.proofs.Laws.{cells_cases}
use Rattle.cut_output.proofs.Sheet.cells.Goals as goal

pub loop-p-init : goal.loop-p-init
loop-p-init c = search (cells_cases, rules)

pub byte-requires : goal.byte-requires
byte-requires c = search (cells_cases, rules)

pub loop-p-preserved : goal.loop-p-preserved
loop-p-preserved c = search (cells_cases, rules)

pub returns-clause-past : goal.returns-clause-past
returns-clause-past c = search (cells_cases, rules)

pub returns-clause-written : goal.returns-clause-written
returns-clause-written c = search (cells_cases, rules)
