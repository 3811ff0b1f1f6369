use Rattle.lists.proofs.Passed.{passed}
use Rattle.insert_decide.proofs.Weighing.{weigh_cases, seat_refused, weigh_unruly}
use Rattle.std.proofs.Common.{rules}
use Rattle.insert_decide.proofs.weigh.Goals as goal

-- src/lib.rt:36:13
pub returns-in_err-p : goal.returns-in_err-p
returns-in_err-p c = seat_refused _ _ _ _ _ _ _ (passed c.from_residual.ensures.1) c.in_err-p.ensures

-- src/lib.rt:38:8
pub find-requires : goal.find-requires
find-requires c = search (weigh_cases, rules)

-- src/lib.rt:39:9
pub returns-then-is_some : goal.returns-then-is_some
returns-then-is_some c = search (weigh_cases, c.in_ok-p.ensures, rules)

-- src/lib.rt:42:9
pub returns-then-x-b : goal.returns-then-x-b
returns-then-x-b c = search (weigh_cases, c.in_ok-p.ensures, rules)

-- src/lib.rt:44:13
pub returns-in_err-t : goal.returns-in_err-t
returns-in_err-t c =
    weigh_unruly _ _ _ _ _ _ _ c.in_ok-p.ensures c.reach-w.ensures c.find.ensures c.is_some.ensures c.if-is_some.false c.if-x-b.false c.pieces.ensures
    (passed c.from_residual-in_err-t.ensures.1) c.in_err-t.ensures.value

-- src/lib.rt:24:1
pub returns : goal.returns
returns c = search (weigh_cases, c.in_ok-p.ensures, c.in_ok-t.ensures.value, rules)
