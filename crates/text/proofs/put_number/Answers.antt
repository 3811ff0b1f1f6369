use Rattle.std.proofs.Common.{rules}
use Rattle.text.proofs.Decimal.{put_cases}
use Rattle.text.proofs.put_number.Goals as goal

pub overflow_add-past : goal.overflow_add-past
overflow_add-past c = search (put_cases, rules)

pub loop-p-init : goal.loop-p-init
loop-p-init c = search (put_cases, rules)

pub loop-p-preserved : goal.loop-p-preserved
loop-p-preserved c = search (put_cases, rules)
