-- Demand 2, "if only our inserts write to it": the store after a list of inserts, the keys that were taken in, and the plain list with them.
use Rattle.std.specs.Prelude.{Result, Ok, Err}
use Rattle.terms.specs.declared.Refusal.{Refusal}
use Rattle.std.specs.Prelude.{List, [], ◌∷◌, ℕ}
use Rattle.lists.specs.Merge.{insert_sorted}
use Rattle.table.specs.Store.{Store}
use Rattle.answers.specs.declared.Inserted.{Inserted}
use Rattle.answers.specs.declared.Inserted.TheVariants.{Buffered, Merged}
use Rattle.insert.specs.Insert.{insert_of}
use Rattle.insert.specs.Cells.{store_by}

-- the store after one insert, and after each of a list in turn
abbrev pub after_one : Store → ℕ → Store
after_one σ k = store_by (insert_of σ k) σ k

unfoldable pub after : Store → List ℕ → Store
after σ [] = σ
after σ (k ∷ ks) = after (after_one σ k) ks

-- the plain list after an insert of k: k in its rising place if the answer is that it was taken in, else the same
abbrev pub list_by : Result Inserted Refusal → ℕ → List ℕ → List ℕ
list_by (Ok (Buffered i j)) k l = insert_sorted k l
list_by (Ok (Merged i t n s)) k l = insert_sorted k l
list_by (Err r) k l = l

-- k before the others, if the answer is that it was taken in
abbrev pub taken_by : Result Inserted Refusal → ℕ → List ℕ → List ℕ
taken_by (Ok (Buffered i j)) k ks = k ∷ ks
taken_by (Ok (Merged i t n s)) k ks = k ∷ ks
taken_by (Err r) k ks = ks

-- of a list of keys given to insert in turn, those that it took in
unfoldable pub taken : Store → List ℕ → List ℕ
taken σ [] = []
taken σ (k ∷ ks) = taken_by (insert_of σ k) k (taken (after_one σ k) ks)

-- a plain list with each of these keys put in its rising place
unfoldable pub insert_all : List ℕ → List ℕ → List ℕ
insert_all [] l = l
insert_all (k ∷ ks) l = insert_all ks (insert_sorted k l)
