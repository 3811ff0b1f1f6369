use Rattle.image_read.proofs.Laws.{fill_asks}
use Rattle.image_read.proofs.carry_out.Goals as goal

pub fill-requires : goal.fill-requires
fill-requires c = fill_asks _ _ _ _ _ c.requires
