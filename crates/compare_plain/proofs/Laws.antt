-- What a cell of numbers reads as.
-- Assumes nothing.
use Rattle.std.proofs.Common.{◌≡◌, ℕ, List, ◌∙◌}
use Rattle.std.specs.Prelude.{Option, None, Some, slice_get, slice_index}
use Rattle.std.specs.Option.{UnwrapsOrElse, unwrap_or}
use Rattle.std.proofs.lemmas.Option.{unwrap_or-slice_get}

taken : (o : Option ℕ) (r : ℕ) → UnwrapsOrElse o (λ d. d ≡ 0) r → r ≡ unwrap_or o 0
taken None r h = h
taken (Some x) r h = h

pub cell : (xs : List ℕ) (i r : ℕ) → UnwrapsOrElse (slice_get xs i) (λ d. d ≡ 0) r → r ≡ slice_index xs i
cell xs i r h = taken (slice_get xs i) r h ∙ unwrap_or-slice_get xs i 0
