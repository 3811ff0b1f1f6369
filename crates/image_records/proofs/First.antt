-- The first edition is proper, so every law of the form holds of it.
-- Assumes nothing.
use mathlib.Core.Path.{◌≡◌, ap}
use Prim.Native.Nat.{ℕ, suc, ◌+◌}
use native.Mathlib.Omega.{arith}
use Rattle.image_little.specs.Little.{get_at}
use Rattle.image_records.specs.Records.{fields_at}
use Rattle.image_records.specs.Images.{Proper}
use Rattle.image_records.specs.First.{first}

pub first_proper : Proper first
unfolding fields_at
first_proper =
    record { end_empty = tt; held_fifth = λ bytes at. ap (λ (k : ℕ). get_at bytes k 1) (let e : at + 17 ≡ suc at + 6 + 2 + 2 + 6 = omega arith in e) }
