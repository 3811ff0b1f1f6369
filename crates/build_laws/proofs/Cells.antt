-- What build leaves in the table.
-- Assumes nothing.
use Rattle.std.specs.Prelude.{Ok, Err}
use mathlib.Core.Path.{◌≡◌, refl, sym, ap, ◌∙◌}
use mathlib.Core.List.{List, [], ◌∷◌, ◌++◌}
use Prim.Native.Nat.{ℕ, zero, suc, ◌+◌, ◌-◌, ◌*◌, ◌≤◌, ◌<◌}
use native.Mathlib.Nat.{not-suc-le-zero, zero-add}
use native.Mathlib.Omega.{arith}
use lib.ListN.{length, get_or, take, drop, length-append, length-drop}
use lib.Seq.{get_or-drop}
use Rattle.lists.proofs.Lists.{get_d_past}
use Rattle.terms.specs.declared.Refusal.{Refusal}
use Rattle.table.proofs.Limits.{Holds, room_holds}
use Rattle.cone.specs.Rule.{Segment, cut}
use Rattle.cutting.specs.Rows.{row_of, rows_of}
use Rattle.cutting.proofs.Rows.{rows_length}
use Rattle.build.specs.Build.{built_of, table_by}
use Rattle.build_laws.specs.Builds.{Accepted}
use Rattle.build_laws.specs.Leaves.{Entered, nowhere, Leaves}
use Rattle.build_laws.proofs.Meaning.{answers, made_accepted}

-- "no lent slice differs from before the call": the table is the only slice that build is lent to write
pub refusal_keeps : (r : Refusal) (e n : ℕ) (keys table : List ℕ) → table_by (Err r) e n keys table ≡ table
refusal_keeps r e n keys table = refl

-- the rows of a list of segments, read back
row_entered : (l : List Segment) (rest : List ℕ) (j : ℕ) → j < length l → Entered (rows_of 0 l ++ rest) j (get_or l j nowhere)
unfolding rows_of
row_entered [] rest j h = absurd (not-suc-le-zero h)
row_entered (x ∷ l) rest zero h = record { first_is = refl; base_is = zero-add x.base; rise_is = refl; run_is = refl; held_is = refl }
row_entered (x ∷ l) rest (suc j) h =
    let w : Entered (rows_of 0 l ++ rest) j (get_or l j nowhere) = row_entered l rest j (omega arith) in
    let row : List ℕ = row_of 0 x in
    record {
      first_is = get_d_past row (rows_of 0 l ++ rest) 5 (5 * j) (5 * suc j) 0 refl (omega arith) ∙ w.first_is;
      base_is = get_d_past row (rows_of 0 l ++ rest) 5 (5 * j + 1) (5 * suc j + 1) 0 refl (omega arith) ∙ w.base_is;
      rise_is = get_d_past row (rows_of 0 l ++ rest) 5 (5 * j + 2) (5 * suc j + 2) 0 refl (omega arith) ∙ w.rise_is;
      run_is = get_d_past row (rows_of 0 l ++ rest) 5 (5 * j + 3) (5 * suc j + 3) 0 refl (omega arith) ∙ w.run_is;
      held_is = get_d_past row (rows_of 0 l ++ rest) 5 (5 * j + 4) (5 * suc j + 4) 0 refl (omega arith) ∙ w.held_is;
    }

module _ (l : List Segment) (table : List ℕ) (room : 5 * length l ≤ length table) where
  after : List ℕ
  after = rows_of 0 l ++ drop (5 * length l) table

  other_cell : (i : ℕ) → 5 * length l ≤ i → get_or after i 0 ≡ get_or table i 0
  unfolding after
  other_cell i h =
      let d : 5 * length l + (i - 5 * length l) ≡ i = omega arith in
      get_d_past (rows_of 0 l) (drop (5 * length l) table) (5 * length l) (i - 5 * length l) i 0 (rows_length 0 l) (sym d)
      ∙ get_or-drop (5 * length l) table (i - 5 * length l) 0 ∙ ap (λ (k : ℕ). get_or table k 0) d

  rows_leave : Leaves l table after
  unfolding after
  rows_leave =
      record {
        long = simp (length-append, length-drop) (omega (arith, rows_length 0 l));
        entries = row_entered l (drop (5 * length l) table);
        others = other_cell;
      }

-- An accepted build of n keys leaves exactly the entries of their cut in the first 5·s cells, and each other cell as it was.
pub made_leaves :
    (e b n : ℕ) (keys table buffers : List ℕ) {s : ℕ} → built_of e b n keys table buffers ≡ Ok s
    → Leaves (cut e (take n keys)) table (table_by (Ok s) e n keys table)
unfolding after
made_leaves e b n keys table buffers {s} is =
    let w : Accepted e b n keys table buffers s = made_accepted e b n keys table buffers s (rw is at (answers e b n keys table buffers)) in
    let h : Holds b s table buffers = room_holds b s table buffers (omega (arith, w.sound.takes.sized.b_least)) w.room in
    rw w.counts (rows_leave (cut e (take n keys)) table (omega (arith, h.table_holds, w.counts)))
