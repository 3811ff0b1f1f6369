-- 01, "Runs on the ramp": P1 to P12 as one table, with one theorem over it (`proofs/Runs.antt`).
use Rattle.std.specs.Prelude.{◌≡◌, List, [], ◌∷◌, ℕ}
use Rattle.cone.specs.Rule.{cut}
use Rattle.cone.specs.Runs.{CutRun, cut_runs}
use Rattle.theory_kept.specs.Runs.{LookRun, Looks, look_runs, InsertRun, Inserts, insert_runs}

-- a run: keys and a bound with the segments of their cut (P1 to P8); a lookup with its guess, its window and its answer (P9, P10); inserts with
-- their answers and every cell that they leave (P11, P12)
pub data Run : Type 0 where
  cuts : CutRun → Run
  looks : LookRun → Run
  inserts : InsertRun → Run

abbrev pub Holds : Run → Type 0
Holds (cuts r) = cut r.bound r.keys ≡ r.segments
Holds (looks r) = Looks r
Holds (inserts r) = Inserts r

abbrev pub AllHold : List Run → Type 0
AllHold [] = Unit {0}
AllHold (r ∷ rs) = Holds r × AllHold rs

-- the runs of one table, then the rest
abbrev pub runs_then : {A : Type 0} → (A → Run) → List A → List Run → List Run
runs_then kind [] rest = rest
runs_then kind (r ∷ rs) rest = kind r ∷ runs_then kind rs rest

-- P1 to P12, in order; P7 is of any e
abbrev pub runs : ℕ → List Run
runs e = runs_then cuts (cut_runs e) (runs_then looks look_runs (runs_then inserts insert_runs []))
