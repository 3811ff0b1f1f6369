use Rattle.lists.proofs.Passed.{passed}
use Rattle.insert_decide.proofs.Laws.{decide_cases, unlimited, keyless, unpicked, unweighed}
use Rattle.std.proofs.Common.{rules}
use Rattle.insert_decide.proofs.decide.Goals as goal

-- src/lib.rt:102:5
pub returns-in_err-within : goal.returns-in_err-within
returns-in_err-within c = unlimited _ _ (passed c.from_residual.ensures.1) c.in_err-within.ensures

-- src/lib.rt:103:15
pub returns-in_err-key : goal.returns-in_err-key
returns-in_err-key c = keyless _ _ (passed c.from_residual-in_err-key.ensures.1) c.in_ok-within.ensures c.in_err-key.ensures

-- src/lib.rt:105:18
pub pick_segment-requires : goal.pick_segment-requires
pick_segment-requires c = search (decide_cases, c.in_ok-within.ensures, rules)

-- src/lib.rt:105:18
pub returns-in_err-i : goal.returns-in_err-i
returns-in_err-i c = unpicked _ _ c.in_ok-within.ensures c.in_ok-key.ensures (passed c.from_residual-in_err-i.ensures.1) c.in_err-i.ensures

-- src/lib.rt:106:9
pub run_of-run-requires : goal.run_of-run-requires
run_of-run-requires c = search (decide_cases, c.in_ok-within.ensures, c.in_ok-i.ensures, rules)

-- src/lib.rt:107:9
pub used_of-used-requires : goal.used_of-used-requires
used_of-used-requires c = search (decide_cases, c.in_ok-within.ensures, c.in_ok-i.ensures, rules)

-- src/lib.rt:108:11
pub weigh-requires : goal.weigh-requires
weigh-requires c = search (decide_cases, c.in_ok-within.ensures, c.in_ok-key.ensures, c.in_ok-i.ensures, rules)

-- src/lib.rt:108:11
pub returns-in_err-p : goal.returns-in_err-p
returns-in_err-p c =
    unweighed _ _ c.in_ok-within.ensures c.in_ok-key.ensures c.in_ok-i.ensures c.in_use.ensures c.run_of-run.ensures c.used_of-used.ensures
    (passed c.from_residual-in_err-p.ensures.1) c.in_err-p.ensures

-- src/lib.rt:110:31
pub merge_due-requires : goal.merge_due-requires
merge_due-requires c = search (decide_cases, c.in_ok-within.ensures, c.in_ok-key.ensures, c.in_ok-i.ensures, c.in_ok-p.ensures, rules)

-- src/lib.rt:99:1
pub returns-in-Slot : goal.returns-in-Slot
returns-in-Slot c = search (decide_cases, c.in_ok-within.ensures, c.in_ok-key.ensures, c.in_ok-i.ensures, c.in_ok-p.ensures, rules)

-- src/lib.rt:99:1
pub returns-in-Pieces : goal.returns-in-Pieces
returns-in-Pieces c = search (decide_cases, c.in_ok-within.ensures, c.in_ok-key.ensures, c.in_ok-i.ensures, c.in_ok-p.ensures, rules)
