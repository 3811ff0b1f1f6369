use Rattle.range_stretch.proofs.Laws.{fill_cases}
use Rattle.std.proofs.Common.{rules}
use Rattle.range_stretch.proofs.fill.Goals as goal

-- src/lib.rt:176:9
pub put_segment-at-requires : goal.put_segment-at-requires
put_segment-at-requires c = search (fill_cases, rules)

-- src/lib.rt:175:5
pub loop-i-preserved : goal.loop-i-preserved
loop-i-preserved c = search (fill_cases, rules)
