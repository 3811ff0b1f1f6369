-- What build leaves in the table, cell by cell.
use Rattle.std.specs.Prelude.{◌≡◌, List, ℕ, ◌+◌, ◌*◌, ◌≤◌, ◌<◌, length, get_or}
use Rattle.cone.specs.Rule.{Segment}

-- row j of a table is the entry of a segment: first key, base, rise, run, and 0 held
pub record Entered (table : List ℕ) (j : ℕ) (x : Segment) : Type 0 where
  pub first_is : get_or table (5 * j) 0 ≡ x.first
  pub base_is : get_or table (5 * j + 1) 0 ≡ x.base
  pub rise_is : get_or table (5 * j + 2) 0 ≡ x.rise
  pub run_is : get_or table (5 * j + 3) 0 ≡ x.run
  pub held_is : get_or table (5 * j + 4) 0 ≡ 0

-- read where a list has no such place; no place of a cut is one
abbrev pub nowhere : Segment
nowhere = record { first = 0; base = 0; rise = 0; run = 0 }

-- the table holds the segments' entries, in order from its start, and each other cell is as it was before
pub record Leaves (segments : List Segment) (before after : List ℕ) : Type 0 where
  pub long : length after ≡ length before
  pub entries : (j : ℕ) → j < length segments → Entered after j (get_or segments j nowhere)
  pub others : (i : ℕ) → 5 * length segments ≤ i → get_or after i 0 ≡ get_or before i 0
