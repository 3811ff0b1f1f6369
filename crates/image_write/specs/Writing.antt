-- 01, "Image writing: 1, 9, 8." What writing answers on every store and out slice, and every cell of the out slice after it.
use Rattle.std.specs.Prelude.{Option, Some, None, Result, Ok, Err}
use Rattle.terms.specs.declared.Refusal.{Refusal}
use Rattle.std.specs.Prelude.{List, ℕ, leb, length}
use Rattle.terms.specs.declared.Refusal.TheVariants.{Limits, StoreWrong, OutRoom}
use Rattle.lists.specs.Tests.{pick}
use Rattle.lists.specs.Over.{over}
use Rattle.table.specs.Store.{Store}
use Rattle.table.specs.Limits.{limited_of}
use Rattle.image_records.specs.Images.{image_bytes}
use Rattle.image_records.specs.First.{first}
use Rattle.image_records.specs.Stores.{image_in}
use Rattle.image_fits.specs.Fits.{wrong_of}

-- the image's length
unfoldable pub length_of : Store → ℕ
length_of σ = length (image_bytes first (image_in σ))

-- "8: result longer than the out slice"
unfoldable pub fitted_of : ℕ → ℕ → Result ℕ Refusal
fitted_of z room = pick (leb z room) (Ok z) (Err OutRoom)

-- 9, then 8
abbrev pub judged_of : Option ℕ → ℕ → ℕ → Result ℕ Refusal
judged_of (Some i) z room = Err (StoreWrong i)
judged_of None z room = fitted_of z room

-- 1, 9, 8, with an out slice that has room for so many bytes
unfoldable pub write_of : Store → ℕ → Result ℕ Refusal
write_of σ room =
    pick (limited_of σ) (judged_of (wrong_of σ.b σ.n σ.s σ.keys σ.table σ.buffers) (length_of σ) room) (Err Limits)

-- the out slice after it: the image from its start, the rest unchanged; a refusal changes nothing
abbrev pub out_by : Result ℕ Refusal → Store → List ℕ → List ℕ
out_by (Ok z) σ out = over out 0 (image_bytes first (image_in σ))
out_by (Err r) σ out = out
