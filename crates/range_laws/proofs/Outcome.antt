-- Demand 1: a refusal of range leaves the out slice, the one that it is lent to write, as it was; and no second outcome meets range's promise: not another
-- answer, and no other cell. Said of the contract itself, as the check reads it off the source.
-- Assumes nothing.
use Rattle.std.specs.Prelude.{Result, Err}
use Rattle.std.specs.Prelude.{ℕ}
use mathlib.Core.Path.{◌≡◌, sym, ◌∙◌}
use contract.Lifetimes.{Lfts}
use Rattle.terms.specs.declared.Refusal.{Refusal}
use Rattle.range.proofs.range.Reads as range

-- the out slice is the fourth parameter
pub refused_unchanged : (κs : Lfts 2) (a : _) (q : Refusal) (x : _) → range.Post κs a (Err q) x →
    x.1.1.1.0.now ≡ a.1.1.1.0.now
refused_unchanged κs a q x p = p.1

pub one_outcome : (κs : Lfts 2) (a : _) (r r' : Result ℕ Refusal) (x x' : _) → range.Post κs a r x → range.Post κs a r' x' →
    (r ≡ r') × (x.1.1.1.0.now ≡ x'.1.1.1.0.now)
one_outcome κs a r r' x x' p q =
    let e : r ≡ r' = p.0 ∙ sym q.0 in
    (e, rw e at p.1 ∙ sym q.1)
