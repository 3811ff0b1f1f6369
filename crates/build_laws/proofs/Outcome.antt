-- No second outcome meets the promise of build: not another answer, and no other cell in the table, the one slice that it is lent to write.
-- Assumes nothing.
use Rattle.std.specs.Prelude.{Result}
use Rattle.std.specs.Prelude.{ℕ}
use Rattle.terms.specs.declared.Refusal.{Refusal}
use mathlib.Core.Path.{◌≡◌, sym, ◌∙◌}
use contract.Lifetimes.{Lfts}
use Rattle.build.proofs.build.Reads as build

-- the table is the fifth parameter
pub one_outcome : (κs : Lfts 3) (a : _) (r r' : Result ℕ Refusal) (x x' : _) → build.Post κs a r x → build.Post κs a r' x' →
    (r ≡ r') × (x.1.1.1.1.0.now ≡ x'.1.1.1.1.0.now)
one_outcome κs a r r' x x' p q =
    let e : r ≡ r' = p.0 ∙ sym q.0 in
    (e, rw e at p.1 ∙ sym q.1)
