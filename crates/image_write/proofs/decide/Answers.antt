use Rattle.image_write.proofs.Laws.{size_asks}
use Rattle.lists.proofs.Passed.{passed}
use Rattle.image_write.proofs.Laws.{decide_cases, limits_refused}
use Rattle.std.proofs.Common.{◌∙◌}
use Rattle.std.proofs.Common.{rules}
use Rattle.table.specs.Store.{store_in}
use Rattle.image_write.proofs.decide.Goals as goal

-- src/lib.rt:28:5
pub returns-in_err-within : goal.returns-in_err-within
returns-in_err-within c = passed c.from_residual.ensures.1 ∙ limits_refused _ _ c.in_err-within.ensures

-- src/lib.rt:29:22
pub wrong-requires : goal.wrong-requires
wrong-requires c = search (decide_cases, c.in_ok-within.ensures, rules)

-- src/lib.rt:30:9
pub returns-in-Some : goal.returns-in-Some
returns-in-Some c = search (decide_cases, c.in_ok-within.ensures, rules)

-- src/lib.rt:32:9
pub image_size-length-requires : goal.image_size-length-requires
image_size-length-requires c = size_asks (store_in c.args.store) c.args.room c.in_ok-within.ensures c.wrong.ensures c.in_default.is

-- src/lib.rt:34:9
pub returns-then-room-length : goal.returns-then-room-length
returns-then-room-length c = search (decide_cases, c.in_ok-within.ensures, rules)

-- src/lib.rt:25:1
pub returns : goal.returns
returns c = search (decide_cases, c.in_ok-within.ensures, rules)
