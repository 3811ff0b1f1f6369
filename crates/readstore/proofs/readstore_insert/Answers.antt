use Rattle.readstore.proofs.Laws.{store_same, insert_answered, insert_keys, insert_table, insert_buffers}
use Rattle.readstore.proofs.readstore_insert.Goals as goal

pub returns-clause-answered : goal.returns-clause-answered
returns-clause-answered c = insert_answered _ _ (store_same _ _ _ c.sizes_of-z.ensures) _ c.insert-a.ensures.answered c.answer_numbers.ensures

pub returns-clause-keys : goal.returns-clause-keys
returns-clause-keys c = insert_keys _ _ (store_same _ _ _ c.sizes_of-z.ensures) _ c.insert-a.ensures.answered c.insert-a.ensures.keys

pub returns-clause-table : goal.returns-clause-table
returns-clause-table c = insert_table _ _ (store_same _ _ _ c.sizes_of-z.ensures) _ c.insert-a.ensures.answered c.insert-a.ensures.table

pub returns-clause-buffers : goal.returns-clause-buffers
returns-clause-buffers c = insert_buffers _ _ (store_same _ _ _ c.sizes_of-z.ensures) _ c.insert-a.ensures.answered c.insert-a.ensures.buffers
