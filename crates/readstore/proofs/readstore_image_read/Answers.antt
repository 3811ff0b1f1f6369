use Rattle.readstore.proofs.Laws.{read_answered, read_keys, read_table, read_buffers}
use Rattle.readstore.proofs.readstore_image_read.Goals as goal

pub returns-clause-answered : goal.returns-clause-answered
returns-clause-answered c = read_answered _ _ _ _ c.read_image-a.ensures.answered c.answer_numbers.ensures

pub returns-clause-keys : goal.returns-clause-keys
returns-clause-keys c = read_keys _ _ _ _ c.read_image-a.ensures.answered c.read_image-a.ensures.keys

pub returns-clause-table : goal.returns-clause-table
returns-clause-table c = read_table _ _ _ _ c.read_image-a.ensures.answered c.read_image-a.ensures.table

pub returns-clause-buffers : goal.returns-clause-buffers
returns-clause-buffers c = read_buffers _ _ _ _ c.read_image-a.ensures.answered c.read_image-a.ensures.buffers
