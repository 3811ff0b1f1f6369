-- What each answer of image writing means, with no scan in it: 01's table, row by row, in its order 1, 9, 8.
use Rattle.std.specs.Prelude.{Result, Ok, Err}
use Rattle.terms.specs.declared.Refusal.{Refusal}
use Rattle.std.specs.Prelude.{ℕ, ◌+◌, ◌*◌, ◌^◌, ◌≤◌, ◌<◌, length, get_or}
use Rattle.terms.specs.declared.Refusal.TheVariants.{Limits as OutOfLimits, StoreWrong, OutRoom}
use Rattle.table.specs.Store.{Store}
use Rattle.table.specs.Limits.{Limits}
use Rattle.table.specs.Entries.{entry_in}
use Rattle.scan.specs.Meaning.{Lowest}
use Rattle.image_records.specs.Images.{image_bytes}
use Rattle.image_records.specs.First.{first}
use Rattle.image_records.specs.Stores.{image_in}

-- entry i is not one "with a field that doesn't fit or held ≥ B" ("a buffered key counts to its segment")
pub record Writable (σ : Store) (i : ℕ) : Type 0 where
  pub first_fits : (entry_in σ i).first.0 < 256 ^ 6
  pub base_fits : (entry_in σ i).base.0 < 256 ^ 2
  pub rise_fits : (entry_in σ i).rise < 256 ^ 2
  pub run_fits : (entry_in σ i).run < 256 ^ 6
  pub held_below : (entry_in σ i).held < σ.b
  pub slots_fit : (j : ℕ) → j < (entry_in σ i).held → get_or σ.buffers (i * σ.b + j) 0 < 256 ^ 6

-- no entry is
abbrev pub Entries : Store → Type 0
Entries σ = (i : ℕ) → i < σ.s → Writable σ i

-- no "key in a run needs over 6 bytes": any key cell below n
abbrev pub Run : Store → Type 0
Run σ = (p : ℕ) → p < σ.n → get_or σ.keys p 0 < 256 ^ 6

abbrev pub bytes_of : Store → ℕ
bytes_of σ = length (image_bytes first (image_in σ))

-- the answers with an out slice of `room` bytes
pub data Answers (σ : Store) (room : ℕ) : Result ℕ Refusal → Type 0 where
  written : Limits σ → Entries σ → Run σ → bytes_of σ ≤ room → Answers σ room (Ok (bytes_of σ))
  refused_1 : (Limits σ → ⊥) → Answers σ room (Err OutOfLimits)
  refused_9_entry : {i : ℕ} → Limits σ → Lowest (λ j. Writable σ j → ⊥) 0 σ.s i → Answers σ room (Err (StoreWrong i))
  refused_9_run : {p : ℕ} → Limits σ → Entries σ → p < σ.n → 256 ^ 6 ≤ get_or σ.keys p 0 → Answers σ room (Err (StoreWrong σ.s))
  refused_8 : Limits σ → Entries σ → Run σ → room < bytes_of σ → Answers σ room (Err OutRoom)
