-- Demand 1: no second outcome meets the check's promise. Said of the contract itself, as the check reads it off the source.
-- Assumes nothing.
use Rattle.std.specs.Prelude.{Result}
use Rattle.terms.specs.declared.Refusal.{Refusal}
use Rattle.std.specs.Prelude.{⊤}
use mathlib.Core.Path.{◌≡◌, sym, ◌∙◌}
use contract.Lifetimes.{Lfts}
use Rattle.judge.proofs.check.Reads as check

pub one_outcome : (κs : Lfts 1) (a : _) (r r' : Result ⊤ Refusal) (x x' : _) → check.Post κs a r x → check.Post κs a r' x' → r ≡ r'
one_outcome κs a r r' x x' p q = p ∙ sym q
