-- Demand 1: no second outcome meets the promise of writing or of reading an image, and a refusal leaves every lent slice as it was. Said of the
-- contracts themselves, as the check reads them off the source.
-- Assumes nothing.
use Rattle.std.specs.Prelude.{Result, Err}
use Rattle.std.specs.Prelude.{ℕ}
use Rattle.terms.specs.declared.Sizes.{Sizes}
use mathlib.Core.Path.{◌≡◌, sym, ◌∙◌}
use contract.Lifetimes.{Lfts}
use Rattle.terms.specs.declared.Refusal.{Refusal}
use Rattle.image_read.proofs.read_image.Reads as read
use Rattle.image_write.proofs.write_image.Reads as write

-- reading: the keys are the second parameter, then the table and the buffers
pub read_outcome : (κs : Lfts 4) (a : _) (r r' : Result Sizes Refusal) (x x' : _) → read.Post κs a r x → read.Post κs a r' x' →
    (r ≡ r') × (x.1.0.now ≡ x'.1.0.now) × (x.1.1.0.now ≡ x'.1.1.0.now) × (x.1.1.1.0.now ≡ x'.1.1.1.0.now)
read_outcome κs a r r' x x' p q =
    let e : r ≡ r' = p.0 ∙ sym q.0 in
    (e, rw e at p.1.0 ∙ sym q.1.0, rw e at p.1.1.0 ∙ sym q.1.1.0, rw e at p.1.1.1 ∙ sym q.1.1.1)

-- writing: the out slice is the second
pub write_outcome : (κs : Lfts 2) (a : _) (r r' : Result ℕ Refusal) (x x' : _) → write.Post κs a r x → write.Post κs a r' x' →
    (r ≡ r') × (x.1.0.now ≡ x'.1.0.now)
write_outcome κs a r r' x x' p q = let e : r ≡ r' = p.0 ∙ sym q.0 in (e, rw e at p.1 ∙ sym q.1)

-- a refusal changes nothing
pub read_unchanged : (κs : Lfts 4) (a : _) (r : Refusal) (x : _) → read.Post κs a (Err r) x →
    (x.1.0.now ≡ a.1.0.now) × (x.1.1.0.now ≡ a.1.1.0.now) × (x.1.1.1.0.now ≡ a.1.1.1.0.now)
read_unchanged κs a r x p = (p.1.0, p.1.1.0, p.1.1.1)

pub write_unchanged : (κs : Lfts 2) (a : _) (r : Refusal) (x : _) → write.Post κs a (Err r) x → x.1.0.now ≡ a.1.0.now
write_unchanged κs a r x p = p.1
