use Rattle.std.proofs.Common.{refl}
use Rattle.image_records.specs.Records.{total}
use Rattle.image_judge.proofs.first_layout.Goals as goal

pub returns : goal.returns
unfolding total
returns c = refl
