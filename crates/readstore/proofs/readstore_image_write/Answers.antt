use Rattle.readstore.proofs.Laws.{write_answered, write_written}
use Rattle.readstore.proofs.readstore_image_write.Goals as goal

pub returns-clause-answered : goal.returns-clause-answered
returns-clause-answered c = write_answered _ _ c.lent.ensures _ c.write_image-a.ensures.answered c.written_numbers.ensures

pub returns-clause-written : goal.returns-clause-written
returns-clause-written c = write_written _ _ c.lent.ensures _ c.write_image-a.ensures.answered c.write_image-a.ensures.out
