use Rattle.range_stretch.proofs.Laws.{keys_cases}
use Rattle.std.proofs.Common.{rules}
use Rattle.range_stretch.proofs.put_keys.Goals as goal

-- src/lib.rt:140:5
pub loop-k-init : goal.loop-k-init
loop-k-init c = search (keys_cases, rules)

-- src/lib.rt:141:9
pub put_key-p-requires : goal.put_key-p-requires
put_key-p-requires c = search (keys_cases, rules)

-- src/lib.rt:140:5
pub loop-k-smaller : goal.loop-k-smaller
loop-k-smaller c = search (keys_cases, rules)

-- src/lib.rt:140:5
pub loop-k-preserved : goal.loop-k-preserved
loop-k-preserved c = search (keys_cases, rules)
