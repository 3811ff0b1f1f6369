-- Answers that the promise shuts out, on inputs of 01: the printed store, and faults of the keys.
-- Assumes nothing.
use Rattle.std.specs.Prelude.{Result, Ok, Err}
use mathlib.Core.Path.{◌≡◌, refl, ◌∙◌}
use mathlib.Core.List.{List, [], ◌∷◌}
use Prim.Native.Nat.{ℕ, ◌^◌}
use native.Mathlib.Omega.{arith}
use Rattle.lists.specs.Tests.{all}
use Rattle.terms.specs.declared.Refusal.{Refusal}
use Rattle.terms.specs.declared.Refusal.TheVariants.{Limits, LargeKey, NotRising, SegmentRoom}
use Rattle.scan.specs.Scan.{first_passing, fails_of}
use Rattle.table.specs.Limits.{sized_of}
use Rattle.cone.specs.Rule.{joins, segment_of, cut_from, cut}
use Rattle.cutting.specs.Rows.{rows_of}
use Rattle.build_keys.specs.Faults.{good_of, fault_of, wrong_of}
use Rattle.build.specs.Build.{takes_of, judged_of, built_of, table_by}
use Rattle.build_laws.specs.Builds.{Builds}
use Rattle.build_laws.proofs.Meaning.{only}

-- the program's keys, with e = 1 and B = 2, in slices with cells to spare
abbrev printed_keys : List ℕ
printed_keys = 10 ∷ 20 ∷ 30 ∷ 100 ∷ 110 ∷ 120 ∷ 7 ∷ []

abbrev table_cells : List ℕ
table_cells = 7 ∷ 7 ∷ 7 ∷ 7 ∷ 7 ∷ 7 ∷ 7 ∷ 7 ∷ 7 ∷ 7 ∷ 7 ∷ 7 ∷ 7 ∷ 7 ∷ []

abbrev slots : List ℕ
slots = 7 ∷ 7 ∷ 7 ∷ 7 ∷ 7 ∷ []

pub printed : built_of 1 2 6 printed_keys table_cells slots ≡ Ok 2
unfolding built_of judged_of takes_of sized_of all fault_of fails_of first_passing good_of cut cut_from joins segment_of
printed = refl

pub printed_table : table_by (Ok 2) 1 6 printed_keys table_cells ≡ 10 ∷ 0 ∷ 2 ∷ 20 ∷ 0 ∷ 100 ∷ 3 ∷ 2 ∷ 20 ∷ 0 ∷ 7 ∷ 7 ∷ 7 ∷ 7 ∷ []
unfolding cut cut_from joins segment_of rows_of
printed_table = refl

-- nine cells have room for one entry only
pub printed_cramped : built_of 1 2 6 printed_keys (7 ∷ 7 ∷ 7 ∷ 7 ∷ 7 ∷ 7 ∷ 7 ∷ 7 ∷ 7 ∷ []) slots ≡ Err SegmentRoom
unfolding built_of judged_of takes_of sized_of all fault_of fails_of first_passing good_of cut cut_from joins segment_of
printed_cramped = refl

-- the seventh key is not above the sixth; of the keys 5, 5, 2^44 the lowest fault is the second's
pub seventh_falls : built_of 1 2 7 printed_keys table_cells slots ≡ Err (NotRising (record { 0 = 6 }))
unfolding built_of judged_of takes_of sized_of all fault_of fails_of first_passing good_of wrong_of
seventh_falls = refl

pub lowest_falls : built_of 0 1 3 (5 ∷ 5 ∷ 2 ^ 44 ∷ []) table_cells slots ≡ Err (NotRising (record { 0 = 1 }))
unfolding built_of judged_of takes_of sized_of all fault_of fails_of first_passing good_of wrong_of
lowest_falls = refl

pub large_first : built_of 0 1 2 (2 ^ 44 ∷ 5 ∷ []) table_cells slots ≡ Err (LargeKey (record { 0 = 0 }))
unfolding built_of judged_of takes_of sized_of all fault_of fails_of first_passing good_of wrong_of
large_first = refl

pub too_many : built_of 0 1 8 printed_keys table_cells slots ≡ Err Limits
unfolding built_of judged_of takes_of sized_of all
too_many = refl

-- a builder that refuses all: no refusal of the printed keys has its meaning
pub not_refused : (r : Refusal) → Builds 1 2 6 printed_keys table_cells slots (Err r) → ⊥
not_refused r w = let e : ◌≡◌ {A = Result ℕ Refusal} (Err r) (Ok 2) = only 1 2 6 printed_keys table_cells slots (Err r) w ∙ printed in let z : ◌≡◌ {A = ℕ} 0 1 = cc in omega arith

-- a builder that takes all: keys that fall are never made into segments
pub not_made : (s : ℕ) → Builds 1 2 7 printed_keys table_cells slots (Ok s) → ⊥
not_made s w =
    let e : ◌≡◌ {A = Result ℕ Refusal} (Ok s) (Err (NotRising (record { 0 = 6 }))) = only 1 2 7 printed_keys table_cells slots (Ok s) w ∙ seventh_falls in
    let z : ◌≡◌ {A = ℕ} 0 1 = cc in omega arith

-- a builder that counts wrongly
pub not_one : Builds 1 2 6 printed_keys table_cells slots (Ok 1) → ⊥
not_one w = let e : ◌≡◌ {A = Result ℕ Refusal} (Ok 1) (Ok 2) = only 1 2 6 printed_keys table_cells slots (Ok 1) w ∙ printed in let z : ◌≡◌ {A = ℕ} 1 2 = cc in omega arith
