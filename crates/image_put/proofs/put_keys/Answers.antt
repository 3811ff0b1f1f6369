use Rattle.std.proofs.Common.{rules}
use Rattle.image_put.proofs.Laws.{keys_cases}
use Rattle.image_put.proofs.put_keys.Goals as goal

pub loop-x-preserved : goal.loop-x-preserved
loop-x-preserved c = search (keys_cases, rules)
