use Rattle.compare_plain.proofs.Laws.{cell}
use Rattle.compare_plain.proofs.segment.entry_of.Goals as goal

pub returns : goal.returns
returns c =
    let t = c.args.table.now in
    cc (cell t _ _ c.at.ensures, cell t _ _ c.at-2.ensures, cell t _ _ c.at-3.ensures, cell t _ _ c.at-4.ensures, cell t _ _ c.at-5.ensures)
