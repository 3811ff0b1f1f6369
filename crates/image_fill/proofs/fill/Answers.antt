use Rattle.std.proofs.Common.{rules}
use Rattle.image_fill.proofs.Laws.{run_filled, table_filled, slots_filled}
use Rattle.image_fill.proofs.fill.Goals as goal

pub returns-clause-keys : goal.returns-clause-keys
returns-clause-keys c = search (run_filled, rules)

pub returns-clause-table : goal.returns-clause-table
returns-clause-table c = search (table_filled, rules)

pub returns-clause-buffers : goal.returns-clause-buffers
returns-clause-buffers c = search (slots_filled, rules)
