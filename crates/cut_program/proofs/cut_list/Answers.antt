use Rattle.lists.proofs.Passed.{passed}
use Rattle.cut_program.proofs.Laws.{unlisted, unbuilt, built, built_few}
use Rattle.cut_program.proofs.cut_list.Goals as goal

pub returns-in_err-listed-clause-shown : goal.returns-in_err-listed-clause-shown
returns-in_err-listed-clause-shown c = unlisted _ _ (passed c.from_residual.ensures.1) c.in_err-listed.ensures.answered

pub returns-in_err-s-clause-shown : goal.returns-in_err-s-clause-shown
returns-in_err-s-clause-shown c =
    unbuilt _ _ _ _ c.in_ok-listed.ensures.answered c.read_list.ensures.cells c.requires _ (passed c.from_residual-in_err-s.ensures.1) c.in_err-s.ensures.answered

pub returns-clause-shown : goal.returns-clause-shown
returns-clause-shown c =
    built _ _ _ _ c.in_ok-listed.ensures.answered c.read_list.ensures.cells c.requires _ c.in_ok-s.ensures.answered c.in_ok-s.ensures.written

pub returns-clause-few : goal.returns-clause-few
returns-clause-few c = built_few _ _ _ _ c.in_ok-listed.ensures.answered c.read_list.ensures.cells c.requires _ c.in_ok-s.ensures.answered
