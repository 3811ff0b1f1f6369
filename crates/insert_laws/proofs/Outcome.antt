-- Demand 1: no second outcome meets insert's promise, in its answer or in any cell of the three slices; and a refusal changes none of them.
-- Said of the contract itself, as the check reads it off the source.
-- Assumes nothing.
use Rattle.std.specs.Prelude.{Result, Err}
use mathlib.Core.Path.{◌≡◌, refl, sym, ◌∙◌}
use Prim.Native.Nat.{ℕ}
use contract.Lifetimes.{Lfts}
use Rattle.terms.specs.declared.Refusal.{Refusal}
use Rattle.table.specs.Store.{Store}
use Rattle.answers.specs.declared.Inserted.{Inserted}
use Rattle.insert.specs.Cells.{keys_by, table_by, buffers_by}
use Rattle.insert.proofs.insert.Reads as insert

-- "no lent slice differs from before the call"
pub keys_stay : (σ : Store) (k : ℕ) (r : Refusal) → keys_by (Err r) σ k ≡ σ.keys
keys_stay σ k r = refl

pub table_stays : (σ : Store) (k : ℕ) (r : Refusal) → table_by (Err r) σ k ≡ σ.table
table_stays σ k r = refl

pub buffers_stay : (σ : Store) (k : ℕ) (r : Refusal) → buffers_by (Err r) σ k ≡ σ.buffers
buffers_stay σ k r = refl

module _ (κs : Lfts 3) (a : _) (r r' : Result Inserted Refusal) (x x' : _) (p : insert.Post κs a r x) (q : insert.Post κs a r' x') where
  pub one_answer : r ≡ r'
  one_answer = p.0 ∙ sym q.0

  pub one_keys : x.1.0.now ≡ x'.1.0.now
  one_keys = rw one_answer at p.1.0 ∙ sym q.1.0

  pub one_table : x.1.1.0.now ≡ x'.1.1.0.now
  one_table = rw one_answer at p.1.1.0 ∙ sym q.1.1.0

  pub one_buffers : x.1.1.1.0.now ≡ x'.1.1.1.0.now
  one_buffers = rw one_answer at p.1.1.1 ∙ sym q.1.1.1
