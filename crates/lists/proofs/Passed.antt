-- What a `?` passes on: the answer is the error that came.
-- Assumes nothing.
use Rattle.std.specs.Prelude.{◌≡◌, Result, Ok, Err}
use Rattle.std.specs.Result.{IsErrAnd}

pub passed : {T E : Type 0} {r : Result T E} {e : E} → IsErrAnd r (λ y. y ≡ e) → r ≡ Err e
passed {r = Ok x} h = absurd h
passed {r = Err y} h = cc
