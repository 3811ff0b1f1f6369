use Rattle.table.proofs.Limits.{within_limits}
use Rattle.range.proofs.range.Goals as goal

pub chosen-requires : goal.chosen-requires
chosen-requires c = within_limits _ c.in_ok-within.ensures
