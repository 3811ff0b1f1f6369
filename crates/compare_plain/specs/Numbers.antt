-- 01, "Refusal numbers": each refusal's number.
use Rattle.std.specs.Prelude.{ℕ}
use Rattle.compare_plain.specs.declared.refusal.Refusal.{Refusal}
use Rattle.compare_plain.specs.declared.refusal.Refusal.TheVariants.{Limits, NoKey, NotAbove, LowAboveHigh, Held, KeyRoom, SegmentRoom, OutRoom, Wrong, Malformed}

abbrev pub number_of : Refusal → ℕ
number_of Limits = 1
number_of NoKey = 2
number_of NotAbove = 3
number_of LowAboveHigh = 4
number_of Held = 5
number_of KeyRoom = 6
number_of SegmentRoom = 7
number_of OutRoom = 8
number_of Wrong = 9
number_of Malformed = 10
