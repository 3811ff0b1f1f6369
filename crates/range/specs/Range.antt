-- 01, "Range low..high": what it answers on every input, and what it leaves in the out slice.
use Rattle.std.specs.Prelude.{Result, Ok, Err}
use Rattle.terms.specs.declared.Refusal.{Refusal}
use Rattle.std.specs.Prelude.{List, ℕ, leb}
use Rattle.lists.specs.Tests.{pick}
use Rattle.lists.specs.Over.{over}
use Rattle.terms.specs.Keys.{is_key}
use Rattle.terms.specs.declared.Refusal.TheVariants.{Limits, LargeKey, Backwards, OutRoom}
use Rattle.table.specs.Store.{Store}
use Rattle.table.specs.Limits.{limited_of}
use Rattle.choose.specs.Stretch.{first_in, past_in}
use Rattle.range_stretch.specs.Stretch.{judged_of}

-- 9, then 8: "result longer than the out slice", which holds `room` keys
abbrev pub listed_by : ℕ → Result ℕ Refusal → Result ℕ Refusal
listed_by room (Err r) = Err r
listed_by room (Ok m) = pick (leb m room) (Ok m) (Err OutRoom)

unfoldable pub stretched_of : Store → ℕ → ℕ → ℕ → ℕ → ℕ → Result ℕ Refusal
stretched_of σ low high a to room = listed_by room (judged_of σ low high a to)

-- "The stretch runs from the segment chosen for low to that chosen for high."
unfoldable pub chosen_range_of : Store → ℕ → ℕ → ℕ → Result ℕ Refusal
chosen_range_of σ low high room = stretched_of σ low high (first_in σ low) (past_in σ high) room

-- "Range: 1, 2, 4, 9, 8."
unfoldable pub range_of : Store → ℕ → ℕ → ℕ → Result ℕ Refusal
range_of σ low high room =
    pick (limited_of σ)
    (pick (is_key low)
    (pick (is_key high)
    (pick (leb low high) (chosen_range_of σ low high room) (Err Backwards))
    (Err (LargeKey (record { 0 = 0 }))))
    (Err (LargeKey (record { 0 = 0 }))))
    (Err Limits)

-- the out slice after the call: "the keys from low to high written to the out slice from its start", "The rest of the out slice is unchanged";
-- and where it refuses, "no lent slice differs from before the call"
abbrev pub out_by : List ℕ → Result ℕ Refusal → List ℕ → List ℕ
out_by keys (Ok m) out = over out 0 keys
out_by keys (Err r) out = out
