-- Each call's answer, told by what it answers where nothing is refused.
-- Assumes nothing.
use Rattle.std.specs.Prelude.{Result, Ok, Err, ⊤}
use mathlib.Core.Path.{◌≡◌, refl}
use Prim.Native.Nat.{ℕ}
use Rattle.terms.specs.declared.Refusal.{Refusal}
use Rattle.terms.specs.declared.Sizes.{Sizes}
use Rattle.answers.specs.declared.Looked.{Looked}
use Rattle.answers.specs.declared.Inserted.{Inserted}
use Rattle.readstore_numbers.specs.Numbers.{answer_numbers, unit_numbers, count_numbers, found_numbers, taken_numbers, sizes_numbers, built_numbers, checked_numbers, looked_numbers, ranged_numbers, inserted_numbers, written_numbers, loaded_numbers}

pub built_are : (a : Result ℕ Refusal) → answer_numbers count_numbers a ≡ built_numbers a
unfolding built_numbers
built_are (Ok s) = refl
built_are (Err r) = refl

pub checked_are : (a : Result ⊤ Refusal) → answer_numbers unit_numbers a ≡ checked_numbers a
unfolding checked_numbers
checked_are (Ok tt) = refl
checked_are (Err r) = refl

pub looked_are : (a : Result Looked Refusal) → answer_numbers found_numbers a ≡ looked_numbers a
unfolding looked_numbers
looked_are (Ok l) = refl
looked_are (Err r) = refl

pub ranged_are : (a : Result ℕ Refusal) → answer_numbers count_numbers a ≡ ranged_numbers a
unfolding ranged_numbers
ranged_are (Ok m) = refl
ranged_are (Err r) = refl

pub inserted_are : (a : Result Inserted Refusal) → answer_numbers taken_numbers a ≡ inserted_numbers a
unfolding inserted_numbers
inserted_are (Ok i) = refl
inserted_are (Err r) = refl

pub written_are : (a : Result ℕ Refusal) → answer_numbers count_numbers a ≡ written_numbers a
unfolding written_numbers
written_are (Ok z) = refl
written_are (Err r) = refl

pub loaded_are : (a : Result Sizes Refusal) → answer_numbers sizes_numbers a ≡ loaded_numbers a
unfolding loaded_numbers
loaded_are (Ok z) = refl
loaded_are (Err r) = refl
