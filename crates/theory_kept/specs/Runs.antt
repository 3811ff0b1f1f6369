-- 01, "Runs on the ramp", P9 to P12, on the printed store. Two tables, and a theorem over each, which computes.
-- The slices have room: 16 keys, 8 entries, 16 slots; every cell past the counts, and every unused slot, holds 7.
use Rattle.std.specs.Prelude.{Option, Some, Result, Ok, Err}
use Rattle.terms.specs.declared.Pos.{Pos}
use Rattle.terms.specs.declared.Refusal.{Refusal}
use Rattle.std.specs.Prelude.{◌≡◌, refl, List, [], ◌∷◌, ◌++◌, ℕ, zero, suc, ◌-◌}
use Rattle.lists.specs.Tests.{all, any}
use Rattle.lists.specs.Rising.{up_of}
use Rattle.lists.specs.Moved.{followed}
use Rattle.lists.specs.Merge.{turns_of, merge, insert_sorted, place_of}
use Rattle.terms.specs.Limits.{key_of, sizes_of}
use Rattle.terms.specs.declared.Refusal.TheVariants.{SegmentRoom}
use Rattle.scan.specs.Scan.{first_passing, lowest_of, fails_of}
use Rattle.line.specs.declared.Span.{Span}
use Rattle.line.specs.Line.{guess_of, window_of, reach_of}
use Rattle.table.specs.Store.{Store, store_of, in_use}
use Rattle.table.specs.Limits.{limited_of}
use Rattle.table.specs.Entries.{entry_of, entry_in}
use Rattle.table.specs.Damaged.{damaged_of}
use Rattle.choose.specs.Chosen.{chosen_of}
use Rattle.choose.specs.Picked.{picked_of}
use Rattle.cone.specs.Rule.{joins, segment_of, cut_from, cut}
use Rattle.cutting.specs.Rows.{rows_of}
use Rattle.answers.specs.declared.Looked.{Looked}
use Rattle.answers.specs.declared.Looked.TheVariants.{Absent}
use Rattle.lookup.specs.Lookup.{buffered_of, searched_of, lookup_of}
use Rattle.answers.specs.declared.Inserted.{Inserted}
use Rattle.answers.specs.declared.Inserted.TheVariants.{Buffered, Merged}
use Rattle.insert_pieces.specs.Judged.{cutting_of}
use Rattle.insert_decide.specs.Weighed.{rest_of, weighed_of}
use Rattle.insert_decide.specs.Decided.{passes_of, later_of, roomed_of, room_for, merge_for, sound_for, decided_of}
use Rattle.insert.specs.Insert.{insert_of}
use Rattle.insert_write.specs.Cells.{put_slots, joined_keys, raised, merged_table, held_of, laid, slots_up}
use Rattle.theory_kept.specs.After.{after_one, after}

-- so many cells of 7
abbrev pub sevens : ℕ → List ℕ
sevens zero = []
sevens (suc c) = 7 ∷ sevens c

-- an entry: first key, base, rise, run, held
abbrev pub entry : ℕ → ℕ → ℕ → ℕ → ℕ → List ℕ
entry first base rise run held = first ∷ base ∷ rise ∷ run ∷ held ∷ []

-- the printed store, in a table slice that has so many cells more
abbrev pub printed_in : ℕ → Store
printed_in more =
    store_of (sizes_of 1 2 6 2) ((10 ∷ 20 ∷ 30 ∷ 100 ∷ 110 ∷ 120 ∷ []) ++ sevens 10) (entry 10 0 2 20 0 ++ (entry 100 3 2 20 0 ++ sevens more)) (sevens 16)

abbrev pub printed : Store
printed = printed_in 30

-- ---- lookups

pub record LookRun : Type 0 where
  pub store : Store
  pub key : ℕ
  pub guess : Option Pos
  pub window : List ℕ
  pub answer : Result Looked Refusal

abbrev pub looks : Store → ℕ → Option Pos → List ℕ → Result Looked Refusal → LookRun
looks σ k guess window answer = record { store = σ; key = k; guess = guess; window = window; answer = answer }

-- P9 "lookup 25, window 0 to 2, absent"; P10 "lookup 99, guess 8, window empty"
abbrev pub look_runs : List LookRun
look_runs =
    looks printed 25 (Some (record { 0 = 1 })) (0 ∷ 1 ∷ 2 ∷ []) (Ok Absent)
    ∷ looks printed 99 (Some (record { 0 = 8 })) [] (Ok Absent)
    ∷ []

-- the positions of a span
abbrev pub count_up : ℕ → ℕ → List ℕ
count_up from zero = []
count_up from (suc c) = from ∷ count_up (suc from) c

abbrev pub positions : Span → List ℕ
positions w = count_up w.from.0 (w.to.0 - w.from.0)

-- in the segment chosen for the key
pub record Looks (r : LookRun) : Type 0 where
  pub guessed : guess_of (entry_in r.store (chosen_of r.store.table r.store.s r.key)) (key_of r.key) ≡ r.guess
  pub seen : positions (window_of (in_use r.store) (entry_in r.store (chosen_of r.store.table r.store.s r.key)) (key_of r.key)) ≡ r.window
  pub answered : lookup_of r.store r.key ≡ r.answer

abbrev pub AllLook : List LookRun → Type 0
AllLook [] = Unit {0}
AllLook (r ∷ rs) = Looks r × AllLook rs

pub looks_hold : AllLook look_runs
unfolding guess_of window_of reach_of chosen_of picked_of entry_of lookup_of searched_of buffered_of lowest_of first_passing limited_of damaged_of all any
looks_hold = (record { guessed = refl; seen = refl; answered = refl }, (record { guessed = refl; seen = refl; answered = refl }, tt))

-- ---- inserts

pub record InsertRun : Type 0 where
  pub store : Store
  pub keys : List ℕ
  pub answers : List (Result Inserted Refusal)
  pub left : Store

abbrev pub inserts : Store → List ℕ → List (Result Inserted Refusal) → Store → InsertRun
inserts σ ks answers left = record { store = σ; keys = ks; answers = answers; left = left }

-- P11 "insert 5: segment 0, slot 0; then insert 25: (5,0,4,25) (100,5,2,20), n=8"
abbrev pub p11 : InsertRun
p11 =
    inserts printed (5 ∷ 25 ∷ []) (Ok (Buffered 0 0) ∷ Ok (Merged 0 1 8 2) ∷ [])
    (store_of (sizes_of 1 2 8 2) ((5 ∷ 10 ∷ 20 ∷ 25 ∷ 30 ∷ 100 ∷ 110 ∷ 120 ∷ []) ++ sevens 8) (entry 5 0 4 25 0 ++ (entry 100 5 2 20 0 ++ sevens 30)) (5 ∷ sevens 15))

-- P12 "instead insert 31, then 99: (10,0,3,21) (99,4,0,1) (100,5,2,20)"
abbrev pub p12 : InsertRun
p12 =
    inserts printed (31 ∷ 99 ∷ []) (Ok (Buffered 0 0) ∷ Ok (Merged 0 2 8 3) ∷ [])
    (store_of (sizes_of 1 2 8 3) ((10 ∷ 20 ∷ 30 ∷ 31 ∷ 99 ∷ 100 ∷ 110 ∷ 120 ∷ []) ++ sevens 8)
    (entry 10 0 3 21 0 ++ (entry 99 4 0 1 0 ++ (entry 100 5 2 20 0 ++ sevens 25))) (31 ∷ sevens 15))

-- "with segment room 2 the second is refusal 7 and 31 stays buffered"
abbrev pub p12_cramped : InsertRun
p12_cramped =
    inserts (printed_in 4) (31 ∷ 99 ∷ []) (Ok (Buffered 0 0) ∷ Err SegmentRoom ∷ [])
    (store_of (sizes_of 1 2 6 2) ((10 ∷ 20 ∷ 30 ∷ 100 ∷ 110 ∷ 120 ∷ []) ++ sevens 10) (entry 10 0 2 20 1 ++ (entry 100 3 2 20 0 ++ sevens 4)) (31 ∷ sevens 15))

-- P12 with a key that waits in the segment behind, and moves with it: "a moved segment's old slots are not cleared"
abbrev pub p12_moved : InsertRun
p12_moved =
    inserts printed (31 ∷ 115 ∷ 99 ∷ []) (Ok (Buffered 0 0) ∷ Ok (Buffered 1 0) ∷ Ok (Merged 0 2 8 3) ∷ [])
    (store_of (sizes_of 1 2 8 3) ((10 ∷ 20 ∷ 30 ∷ 31 ∷ 99 ∷ 100 ∷ 110 ∷ 120 ∷ []) ++ sevens 8)
    (entry 10 0 3 21 0 ++ (entry 99 4 0 1 0 ++ (entry 100 5 2 20 1 ++ sevens 25))) (31 ∷ 7 ∷ 115 ∷ 7 ∷ 115 ∷ sevens 11))

abbrev pub insert_runs : List InsertRun
insert_runs = p11 ∷ p12 ∷ p12_cramped ∷ p12_moved ∷ []

-- the answers, one after the other
abbrev pub answers_of : Store → List ℕ → List (Result Inserted Refusal)
answers_of σ [] = []
answers_of σ (k ∷ ks) = insert_of σ k ∷ answers_of (after_one σ k) ks

-- each answer, and every cell after the last
pub record Inserts (r : InsertRun) : Type 0 where
  pub answered : answers_of r.store r.keys ≡ r.answers
  pub leaves : after r.store r.keys ≡ r.left

abbrev pub AllInsert : List InsertRun → Type 0
AllInsert [] = Unit {0}
AllInsert (r ∷ rs) = Inserts r × AllInsert rs

pub inserts_hold : AllInsert insert_runs
unfolding after insert_of decided_of sound_for weighed_of rest_of cutting_of merge_for later_of passes_of room_for roomed_of put_slots joined_keys raised merged_table held_of laid slots_up reach_of window_of guess_of chosen_of picked_of entry_of lowest_of first_passing fails_of limited_of damaged_of all any up_of merge turns_of followed insert_sorted place_of cut cut_from joins segment_of rows_of
inserts_hold = (
  record { answered = refl; leaves = refl },
  (record { answered = refl; leaves = refl }, (record { answered = refl; leaves = refl }, (record { answered = refl; leaves = refl }, tt))),
)
