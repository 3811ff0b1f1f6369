-- Each of the worked runs P1 to P12 goes as 01 says.
-- Assumes nothing.
use mathlib.Core.List.{List, [], ◌∷◌}
use Prim.Native.Nat.{ℕ}
use Rattle.cone.specs.Runs.{cut_runs, runs_hold}
use Rattle.theory_kept.specs.Runs.{look_runs, looks_hold, insert_runs, inserts_hold}
use Rattle.promises.specs.Runs.{Run, cuts, looks, inserts, Holds, AllHold, runs_then, runs}

-- the runs of one table hold
abbrev Hold : {A : Type 0} → (A → Run) → List A → Type 0
Hold kind [] = Unit {0}
Hold kind (r ∷ rs) = Holds (kind r) × Hold kind rs

hold_then : {A : Type 0} (kind : A → Run) (rs : List A) (rest : List Run) → Hold kind rs → AllHold rest → AllHold (runs_then kind rs rest)
hold_then kind [] rest h g = g
hold_then kind (r ∷ rs) rest h g = (h.0, hold_then kind rs rest h.1 g)

pub all_hold : (e : ℕ) → AllHold (runs e)
all_hold e =
    let last : List Run = runs_then inserts insert_runs [] in
    hold_then cuts (cut_runs e) (runs_then looks look_runs last) (runs_hold e) (hold_then looks look_runs last looks_hold (hold_then inserts insert_runs [] inserts_hold tt))
