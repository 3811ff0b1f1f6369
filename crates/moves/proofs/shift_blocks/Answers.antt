use Rattle.moves.proofs.Shift.{blocks_cases}
use Rattle.std.proofs.Common.{rules}
use Rattle.moves.proofs.shift_blocks.Goals as goal

-- src/lib.rt:31:5
pub loop-left-init : goal.loop-left-init
loop-left-init c = search (blocks_cases, rules)

-- src/lib.rt:33:23
pub overflow_add-from : goal.overflow_add-from
overflow_add-from c = search (blocks_cases, rules)

-- src/lib.rt:33:9
pub move_block-requires : goal.move_block-requires
move_block-requires c = search (blocks_cases, rules)

-- src/lib.rt:31:5
pub loop-left-preserved : goal.loop-left-preserved
loop-left-preserved c = search (blocks_cases, rules)

-- src/lib.rt:26:1
pub returns : goal.returns
returns c = search (blocks_cases, rules)
