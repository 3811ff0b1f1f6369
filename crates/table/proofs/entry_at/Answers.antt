use Rattle.table.specs.Entries.{entry_of}
use Rattle.table.proofs.entry_at.Goals as goal

pub returns : goal.returns
unfolding entry_of
returns c = cc
