-- 01, "Range low..high": the stretch of segments, and its keys from low to high.
use Rattle.std.specs.Prelude.{List, ℕ, suc, ◌-◌}
use Rattle.lists.specs.Between.{between}
use Rattle.table.specs.Store.{Store}
use Rattle.table.specs.Reads.{stretch_of}
use Rattle.choose.specs.Chosen.{chosen_of}

-- "these are joined, and the keys from low to high": of the segments from a up to and without `to`
abbrev pub keys_in : Store → ℕ → ℕ → ℕ → ℕ → List ℕ
keys_in σ low high a to = between low high (stretch_of σ a (to - a))

-- "The stretch runs from the segment chosen for low to that chosen for high."
abbrev pub first_in : Store → ℕ → ℕ
first_in σ low = chosen_of σ.table σ.s low

abbrev pub past_in : Store → ℕ → ℕ
past_in σ high = suc (chosen_of σ.table σ.s high)

-- its keys from low to high: those that an accepted call writes
abbrev pub keys_from : Store → ℕ → ℕ → List ℕ
keys_from σ low high = keys_in σ low high (first_in σ low) (past_in σ high)
