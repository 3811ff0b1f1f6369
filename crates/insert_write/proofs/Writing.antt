-- The cases of the functions that write an insert.
-- Assumes nothing.
use mathlib.Core.Path.{◌≡◌, refl, sym, ap, ◌∙◌}
use mathlib.Core.List.{List, [], ◌∷◌, ◌++◌, append_assoc}
use Prim.Native.Nat.{ℕ, ◌+◌, ◌-◌, ◌*◌, ◌≤◌, ◌<◌}
use native.Mathlib.Nat.{mul-le-mul_right, mul-le-mul, add-sub_cancel_left}
use native.Mathlib.Omega.{arith}
use lib.ListN.{length, get_or, set, take, drop, length-take, length-drop, length-append}
use lib.Seq.{take-take, take-add, take_at, drop_at, drop-drop, get_or-drop, length-take-le}
use borrow.Rule.Slice.PartMut.{put_mid}
use Rattle.lists.specs.Merge.{merge, insert_sorted}
use Rattle.lists.specs.Moved.{moved, put_at}
use Rattle.lists.proofs.Moved.{take_moved, drop_moved, put_rising}
use Rattle.lists.proofs.Lists.{drop_take, tail_is, tail_back, mid_back, take_front, drop_front}
use Rattle.lists.proofs.Merging.{length_merge, length_insert, place_le}
use Rattle.terms.specs.Limits.{n_most, in_use_of}
use Rattle.terms.specs.declared.Sizes.{Sizes}
use Rattle.terms.specs.declared.Entry.{Entry}
use Rattle.table.specs.Store.{Store, store_of, in_use}
use Rattle.table.specs.Entries.{entry_of, run_of, used_of}
use Rattle.table.proofs.Limits.{Holds, room_holds}
use Rattle.segment.specs.Lent.{UsedHeld, Lent}
use Rattle.segment.proofs.Laws.{used_held, lent}
use Rattle.cone.specs.Rule.{Segment, cut}
use Rattle.cone.specs.Cover.{Tiled}
use Rattle.cone.specs.Keys.{Cuttable}
use Rattle.cone.proofs.Cover.{parted}
use Rattle.cutting.specs.Rows.{rows_of, Known}
use Rattle.insert_place.specs.Join.{Puttable}
use Rattle.moves.specs.Tail.{raised, raised_up, Tail}
use Rattle.moves.specs.Slots.{held_of, laid, lifted, Liftable}
use Rattle.insert_write.specs.Merged.{merged_at, Passes}
use Rattle.insert_write.specs.Cells.{put_slots, joined_keys, slots_up, merged_keys, merged_table}
use Rattle.insert_write.specs.Write.{Holding, Joinable, SlotsLater, rows_up, RowsLater, Later, joined_part, recut_table, Recuttable, Mergeable}

-- ---- into a slot

module _ (z : Sizes) (table buffers : List ℕ) (i : ℕ) (x : Entry) (slot k : ℕ) (asked : Holding z table buffers i x slot k) where
  abbrev held : ℕ
  held = x.held

  abbrev at : ℕ
  at = i * z.b

  abbrev slots : List ℕ
  slots = take (i * z.b + (x.held + 1) - i * z.b) (drop (i * z.b) buffers)

  count : at + (held + 1) - at ≡ held + 1
  count = add-sub_cancel_left at (held + 1)

  slots_length : length slots ≡ held + 1
  slots_length = omega (arith, count, length-take (at + (held + 1) - at) (drop at buffers), length-drop at buffers, asked.room)

  used_is : take (length slots - 1) slots ≡ take held (drop at buffers)
  used_is =
      let e : length slots - 1 ≡ held = omega (arith, slots_length) in
      ap (λ (m : ℕ). take m slots) e ∙ take-take held (at + (held + 1) - at) (drop at buffers) (omega (arith, count))

  pub hold_asks : Puttable (take (i * z.b + (x.held + 1) - i * z.b) (drop (i * z.b) buffers)) slot
  hold_asks = record { below = omega (arith, slots_length, asked.place, place_le k (take held (drop at buffers)), length-take held (drop at buffers)) }

  pub hold_put : {r : List ℕ} → r ≡ put_at slot k (take (length slots - 1) slots)
      → put_mid (i * z.b) (i * z.b + (x.held + 1) - i * z.b) buffers r ≡ put_slots (i * z.b) (entry_of z.n z.s table i).held k buffers
  unfolding put_slots
  hold_put {r} is =
      let e : at + held + 1 ≡ at + (held + 1) = omega arith in
      mid_back buffers r at (at + (held + 1)) (at + (held + 1) - at) (omega (arith, count)) ∙ rw (sym asked.entry, is, used_is, put_rising k (take held (drop at buffers)) asked.place, e) refl

  pub hold_held : set table (5 * i + 4) (x.held + 1) ≡ set table (5 * i + 4) ((entry_of z.n z.s table i).held + 1)
  hold_held = ap (λ (y : Entry). set table (5 * i + 4) (y.held + 1)) asked.entry

pub ruleset hold_cases = (hold_asks, hold_put, hold_held)

-- ---- the keys

module _ (b n : ℕ) (x : Entry) (keys used : List ℕ) (k : ℕ) (asked : Joinable b n x keys used) where
  module _ {s : List ℕ} (up : s ≡ moved x.base.0 (n - x.base.0) (x.base.0 + b) keys) where
    abbrev base : ℕ
    base = x.base.0

    abbrev end : ℕ
    end = x.end.0

    below_run : take base s ≡ take base keys
    below_run =
        ap (take base) up ∙ sym (take-take base (base + b) (moved base (n - base) (base + b) keys) (omega arith))
        ∙ ap (take base) (take_moved keys base (n - base) (base + b) (omega (arith, asked))) ∙ take-take base (base + b) keys (omega arith)

    above_run : drop (base + b) s ≡ take (n - base) (drop base keys) ++ drop (n + b) keys
    above_run =
        let e : base + b + (n - base) ≡ n + b = omega (arith, asked) in
        ap (drop (base + b)) up ∙ drop_moved keys base (n - base) (base + b) (omega (arith, asked))
        ∙ ap (λ (m : ℕ). take (n - base) (drop base keys) ++ drop m keys) e

    enough : n - base ≤ length (drop base keys)
    enough = omega (arith, length-drop base keys, asked)

    run_is : drop (length used + 1) (take (end + b - base) (drop base s)) ≡ run_of keys x
    run_is =
        let e : end + b - base - b ≡ end - base = omega (arith, asked) in
        ap (λ (m : ℕ). drop m (take (end + b - base) (drop base s))) asked.full ∙ drop_take b (end + b - base) (drop base s)
        ∙ ap (λ (m : ℕ). take m (drop b (drop base s))) e ∙ ap (take (end - base)) (drop-drop b base s ∙ above_run)
        ∙ take_front (end - base) (n - base) (drop base keys) (drop (n + b) keys) (omega (arith, asked)) enough

    later_is : drop (end + b) s ≡ take (n - end) (drop end keys) ++ drop (n + b) keys
    later_is =
        let e : end + b ≡ base + b + (end - base) = omega (arith, asked) in
        let f : base + (end - base) ≡ end = omega (arith, asked) in
        ap (λ (m : ℕ). drop m s) e ∙ sym (drop-drop (end - base) (base + b) s) ∙ ap (drop (end - base)) above_run
        ∙ drop_front (end - base) (n - base) (n - end) (drop base keys) (drop (n + b) keys) (omega (arith, asked)) enough
        ∙ ap (λ (l : List ℕ). take (n - end) l ++ drop (n + b) keys) (drop-drop (end - base) base keys ∙ ap (λ (m : ℕ). drop m keys) f)

    pub keys_joined :
        {r : List ℕ} → r ≡ merge (drop (length used + 1) (take (x.end.0 + b - x.base.0) (drop x.base.0 s))) (insert_sorted k used)
        → put_mid x.base.0 (x.end.0 + b - x.base.0) s r ≡ joined_keys b n x used k keys
    unfolding joined_keys
    keys_joined {r} is =
        mid_back s r base (end + b) (end + b - base) (omega (arith, asked)) ∙ rw (below_run, is, run_is, later_is) refl

pub ruleset keys_cases = (keys_joined)

-- ---- the used slots of the later segments

module _ (b s : ℕ) (table buffers : List ℕ) (i t : ℕ) (asked : SlotsLater b s table buffers i t) where
  abbrev part : List ℕ
  part = drop ((i + 1) * b) buffers

  abbrev tail : List ℕ
  tail = drop (5 * (i + 1)) table

  whole : (i + 1) * b + (t - 1 + (s - (i + 1))) * b ≡ (s - 1 + t) * b
  whole = let e : s - 1 + t ≡ (i + 1) + (t - 1 + (s - (i + 1))) = omega (arith, asked.inside, asked.some) in rw e (omega arith)

  later_held : (m : ℕ) → m < s - (i + 1) → get_or tail (5 * m + 4) 0 ≤ b
  later_held m h =
      let e : 5 * (i + 1) + (5 * m + 4) ≡ 5 * (i + 1 + m) + 4 = omega arith in
      rw (get_or-drop (5 * (i + 1)) table (5 * m + 4) 0, e) (asked.few (i + 1 + m) (omega arith) (omega arith))

  pub slots_asks :
      Liftable (take (length buffers - (i + 1) * b) (drop ((i + 1) * b) buffers)) (take (length table - 5 * (i + 1)) (drop (5 * (i + 1)) table)) b (s - (i + 1)) (t - 1)
  slots_asks =
      rw (tail_is buffers ((i + 1) * b), tail_is table (5 * (i + 1)))
      (record {
        held = omega (arith, length-drop (5 * (i + 1)) table, asked.table_held);
        few = later_held;
        room = omega (arith, length-drop ((i + 1) * b) buffers, asked.room, whole);
        small = omega (arith, asked.small, whole);
      })

  pub slots_lifted :
      {r : List ℕ} → r ≡ lifted b (t - 1) (held_of (s - (i + 1)) (take (length table - 5 * (i + 1)) (drop (5 * (i + 1)) table))) (take (length buffers - (i + 1) * b) (drop ((i + 1) * b) buffers))
      → put_mid ((i + 1) * b) (length buffers - (i + 1) * b) buffers r ≡ slots_up b s table i t buffers
  unfolding lifted slots_up
  slots_lifted {r} is =
      let hs : List ℕ = held_of (s - (i + 1)) tail in
      let e : (i + 1) * b + (t - 1) * b ≡ (i + t) * b = let f : i + t ≡ (i + 1) + (t - 1) = omega (arith, asked.some) in rw f (omega arith) in
      tail_back buffers r ((i + 1) * b) asked.start
      ∙ ap (λ (q : List ℕ). take ((i + 1) * b) buffers ++ q)
      (is ∙ rw (tail_is buffers ((i + 1) * b), tail_is table (5 * (i + 1))) refl)
      ∙ sym (append_assoc (take ((i + 1) * b) buffers) (take ((t - 1) * b) part) (laid b hs part (drop ((t - 1) * b) part)))
      ∙ ap (λ (q : List ℕ). q ++ laid b hs part (drop ((t - 1) * b) part)) (sym (take-add ((i + 1) * b) ((t - 1) * b) buffers))
      ∙ rw (drop-drop ((t - 1) * b) ((i + 1) * b) buffers, e) refl

pub ruleset slots_cases = (slots_asks, slots_lifted)

-- ---- the later entries

module _ (b s : ℕ) (table : List ℕ) (i t : ℕ) (asked : RowsLater b s table i t) where
  pub rows_asks : Tail (take (length table - 5 * (i + 1)) (drop (5 * (i + 1)) table)) (s - (i + 1)) (t - 1) b
  rows_asks =
      rw (tail_is table (5 * (i + 1)))
      (record {
        held = omega (arith, length-drop (5 * (i + 1)) table, asked.room, asked.inside, asked.some);
        fit = λ m h.
            let e : 5 * (i + 1) + (5 * m + 1) ≡ 5 * (i + 1 + m) + 1 = omega arith in
            rw (get_or-drop (5 * (i + 1)) table (5 * m + 1) 0, e) (omega (arith, asked.b_limit, asked.few (i + 1 + m) (omega arith) (omega arith)));
      })

  pub rows_raised : {r : List ℕ} → r ≡ raised_up (s - (i + 1)) (t - 1) b (take (length table - 5 * (i + 1)) (drop (5 * (i + 1)) table))
      → put_mid (5 * (i + 1)) (length table - 5 * (i + 1)) table r ≡ rows_up b s i t table
  unfolding rows_up
  rows_raised {r} is =
      tail_back table r (5 * (i + 1)) (omega (arith, asked.room, asked.inside, asked.some))
      ∙ ap (λ (q : List ℕ). take (5 * (i + 1)) table ++ q) (is ∙ ap (raised_up (s - (i + 1)) (t - 1) b) (tail_is table (5 * (i + 1))))

pub ruleset rows_cases = (rows_asks, rows_raised)

-- ---- the new entries

module _ (e₀ b : ℕ) (x : Entry) (keys : List ℕ) (i t : ℕ) (table : List ℕ) (asked : Recuttable e₀ b x keys i t table) {e : ℕ} (bound : e ≡ e₀) where
  part_length : length (joined_part b x keys) ≡ x.end.0 + b - x.base.0
  part_length = omega (arith, length-take (x.end.0 + b - x.base.0) (drop x.base.0 keys), length-drop x.base.0 keys, asked.some, asked.room)

  pub recut_asks : Known e (joined_part b x keys) x.base.0 (take (length table - 5 * i) (drop (5 * i) table)) t
  recut_asks =
      rw (tail_is table (5 * i))
      (record {
        writable =
            record {
              keys = rw bound asked.keys_rise;
              room = rw bound (omega (arith, asked.pieces, asked.rows, length-drop (5 * i) table));
              place = omega (arith, part_length, asked.some, asked.most);
            };
        some = omega (arith, part_length, asked.some);
        pieces = rw bound asked.pieces;
      })

  pub recut_done :
      {new : List ℕ} → new ≡ rows_of x.base.0 (cut e (joined_part b x keys)) ++ drop (5 * t) (take (length table - 5 * i) (drop (5 * i) table))
      → put_mid (5 * i) (length table - 5 * i) table new ≡ recut_table e₀ b x keys i table
  unfolding recut_table
  recut_done {new} is =
      tail_back table new (5 * i) (omega (arith, asked.rows))
      ∙ ap (λ (q : List ℕ). take (5 * i) table ++ q) (is ∙ rw (bound, tail_is table (5 * i)) (ap (λ (m : ℕ). rows_of x.base.0 (cut e₀ (joined_part b x keys)) ++ drop (5 * m) (drop (5 * i) table)) asked.pieces))

pub ruleset recut_cases = (recut_asks, recut_done)

-- ---- all of it

-- keys are cut into some segment
tiled_some : (ks : List ℕ) (l : List Segment) → Tiled ks 0 l → 0 < length ks → 0 < length l
tiled_some ks [] t h = absurd (omega arith)
tiled_some ks (x ∷ xs) t h = omega arith

module _ (z : Sizes) (keys table buffers : List ℕ) (i : ℕ) (x : Entry) (t k : ℕ) (asked : Mergeable (store_of z keys table buffers) i x t k) where
  abbrev σ : Store
  σ = store_of z keys table buffers

  pub join_used : UsedHeld z.b buffers i x
  join_used = used_held z keys table buffers asked.limits i x asked.inside asked.sound

  parts : Lent x (run_of keys x) (used_of z.b buffers i x.held)
  parts = lent z keys table buffers asked.limits i x asked.inside asked.sound refl refl

  holds : Holds z.b (z.s - 1 + t) table buffers
  holds = room_holds z.b (z.s - 1 + t) table buffers (omega (arith, asked.limits)) asked.room_for_segments

  keys_hold : z.n + z.b ≤ length keys
  keys_hold = omega (arith, asked.room_for_keys)

  keys_most : z.n + z.b ≤ n_most
  keys_most = omega (arith, asked.room_for_keys)

  later_fine : (m : ℕ) → i < m → m < z.s → (get_or table (5 * m + 1) 0 ≤ z.n) × (get_or table (5 * m + 4) 0 < z.b)
  unfolding entry_of
  later_fine m above below = let p : Passes σ m = asked.later m above below in (p.base, p.held)

  full : x.held + 1 ≡ z.b
  full = omega (arith, asked.full, asked.sound)

  joined_length : length (merged_at σ i x k) ≡ x.end.0 + z.b - x.base.0
  joined_length =
      omega (
        arith,
        length_merge (run_of keys x) (insert_sorted k (used_of z.b buffers i x.held)),
        length_insert k (used_of z.b buffers i x.held),
        parts,
        full,
      )

  joined_cuts : Cuttable (in_use σ) (merged_at σ i x k)
  joined_cuts = record { bound = omega (arith, asked.limits.e_limit); few = omega (arith, joined_length, keys_most, asked.sound); rising = asked.rising }

  some_pieces : 1 ≤ t
  some_pieces =
      let l : 0 < length (merged_at σ i x k) = omega (arith, joined_length, asked.sound) in
      omega (arith, asked.pieces, tiled_some (merged_at σ i x k) (cut (in_use σ) (merged_at σ i x k)) (parted (in_use σ) (merged_at σ i x k)) l)

  join_slots : SlotsLater z.b z.s table buffers i t
  join_slots =
      record {
        inside = asked.inside;
        some = some_pieces;
        table_held = asked.limits.table_holds;
        few = λ m above below. let h : get_or table (5 * m + 4) 0 < z.b = (later_fine m above below).1 in omega arith;
        start = omega (arith, mul-le-mul_right {m = i + 1} {n = z.s} z.b (omega (arith, asked.inside)), asked.limits.buffers_hold);
        room = holds.buffers_hold;
        small = omega (arith, mul-le-mul holds.s_limit asked.limits.b_limit);
      }

  join_rows : RowsLater z.b z.s table i t
  join_rows =
      record {
        inside = asked.inside;
        some = some_pieces;
        b_limit = asked.limits.b_limit;
        few = λ m above below. let h : get_or table (5 * m + 1) 0 ≤ z.n = (later_fine m above below).0 in omega (arith, asked.limits.n_limit);
        room = holds.table_holds;
      }

  pub join_later : Later z.b z.s table buffers i t
  join_later = record { slots = join_slots; rows = join_rows }

  -- the key slice as it is then: the part from base on is the merged list
  part_joined : {K : List ℕ} → K ≡ joined_keys z.b z.n x (used_of z.b buffers i x.held) k keys → joined_part z.b x K ≡ merged_at σ i x k
  unfolding joined_keys
  part_joined {K} is =
      let base : ℕ = x.base.0 in
      let rest : List ℕ = take (z.n - x.end.0) (drop x.end.0 keys) ++ drop (z.n + z.b) keys in
      let l : length (take base keys) ≡ base = length-take-le base keys (omega (arith, asked.sound, asked.limits)) in
      ap (λ (q : List ℕ). take (x.end.0 + z.b - base) (drop base q)) is
      ∙ ap (take (x.end.0 + z.b - base)) (drop_at (take base keys) (merged_at σ i x k ++ rest) base l)
      ∙ take_at (merged_at σ i x k) rest (x.end.0 + z.b - base) joined_length

  length_keys : {K : List ℕ} → K ≡ joined_keys z.b z.n x (used_of z.b buffers i x.held) k keys → x.end.0 + z.b ≤ length K
  unfolding joined_keys
  length_keys {K} is =
      let base : ℕ = x.base.0 in
      let rest : List ℕ = take (z.n - x.end.0) (drop x.end.0 keys) ++ drop (z.n + z.b) keys in
      let l : length (take base keys) ≡ base = length-take-le base keys (omega (arith, asked.sound, asked.limits)) in
      omega (arith, ap length is, length-append (take base keys) (merged_at σ i x k ++ rest), length-append (merged_at σ i x k) rest, l, joined_length, asked.sound)

  -- the table with the later entries moved
  abbrev others : List ℕ
  others = drop (5 * (i + 1)) table

  abbrev left : ℕ
  left = z.s - (i + 1)

  abbrev last : List ℕ
  last = raised (z.s - (i + 1)) z.b (drop (5 * (i + 1)) table) ++ drop (5 * (t - 1) + 5 * (z.s - (i + 1))) (drop (5 * (i + 1)) table)

  up_is : {T : List ℕ} → T ≡ rows_up z.b z.s i t table → T ≡ take (5 * (i + 1)) table ++ (take (5 * (t - 1)) others ++ last)
  unfolding rows_up raised_up
  up_is is = is

  tail_length : length others ≡ length table - 5 * (i + 1)
  tail_length = length-drop (5 * (i + 1)) table

  front : {T : List ℕ} → T ≡ rows_up z.b z.s i t table → take (5 * i) T ≡ take (5 * i) table
  front is =
      ap (take (5 * i)) (up_is is)
      ∙ take_front (5 * i) (5 * (i + 1)) table (take (5 * (t - 1)) others ++ last) (omega arith) (omega (arith, asked.limits, asked.inside))

  past : {T : List ℕ} → T ≡ rows_up z.b z.s i t table → drop (5 * t) (drop (5 * i) T) ≡ last
  past {T} is =
      let e : 5 * i + 5 * t ≡ 5 * (i + 1) + 5 * (t - 1) = omega (arith, some_pieces) in
      drop-drop (5 * t) (5 * i) T ∙ ap (λ (m : ℕ). drop m T) e ∙ sym (drop-drop (5 * (t - 1)) (5 * (i + 1)) T)
      ∙ ap (λ (l : List ℕ). drop (5 * (t - 1)) (drop (5 * (i + 1)) l)) (up_is is)
      ∙ ap (drop (5 * (t - 1)))
      (drop_at (take (5 * (i + 1)) table) (take (5 * (t - 1)) others ++ last) (5 * (i + 1)) (length-take-le (5 * (i + 1)) table (omega (arith, asked.limits, asked.inside))))
      ∙ drop_at (take (5 * (t - 1)) others) last (5 * (t - 1)) (length-take-le (5 * (t - 1)) others (omega (arith, tail_length, holds.table_holds, asked.inside, some_pieces)))

  last_is : last ≡ raised (z.s - (i + 1)) z.b (drop (5 * (i + 1)) table) ++ drop (5 * (z.s - 1 + t)) table
  last_is =
      let f : 5 * (i + 1) + (5 * (t - 1) + 5 * left) ≡ 5 * (z.s - 1 + t) = omega (arith, asked.inside, some_pieces) in
      ap (λ (l : List ℕ). raised left z.b others ++ l) (drop-drop (5 * (t - 1) + 5 * left) (5 * (i + 1)) table ∙ ap (λ (m : ℕ). drop m table) f)

  long_table : {T : List ℕ} → T ≡ rows_up z.b z.s i t table → 5 * i + 5 * t ≤ length T
  long_table {T} is =
      omega (
        arith,
        ap length (up_is is),
        length-append (take (5 * (i + 1)) table) (take (5 * (t - 1)) others ++ last),
        length-append (take (5 * (t - 1)) others) last,
        length-take-le (5 * (i + 1)) table (omega (arith, asked.limits, asked.inside)),
        length-take-le (5 * (t - 1)) others (omega (arith, tail_length, holds.table_holds, asked.inside, some_pieces)),
        some_pieces,
      )

  module _ {used : List ℕ} (u : used ≡ used_of z.b buffers i x.held) where
    pub join_keys_asks : Joinable z.b z.n x keys used
    join_keys_asks = rw u (omega (arith, asked.sound, parts, full, keys_hold))

    module _ {K : List ℕ} (keyed : K ≡ joined_keys z.b z.n x used k keys) where
      here : K ≡ joined_keys z.b z.n x (used_of z.b buffers i x.held) k keys
      here = keyed ∙ ap (λ (l : List ℕ). joined_keys z.b z.n x l k keys) u

      pub join_keys_done : K ≡ merged_keys (store_of z keys table buffers) i k
      join_keys_done = here ∙ ap (λ (y : Entry). joined_keys z.b z.n y (used_of z.b buffers i y.held) k keys) asked.entry

      module _ {T : List ℕ} (raisen : T ≡ rows_up z.b z.s i t table) where
        pub join_recut : Recuttable (in_use_of z) z.b x K i t T
        join_recut =
            let p : joined_part z.b x K ≡ merged_at σ i x k = part_joined here in
            record {
              some = asked.sound.some;
              most = omega (arith, asked.sound, keys_most);
              room = length_keys here;
              keys_rise = rw p joined_cuts;
              pieces = rw p asked.pieces;
              rows = long_table raisen;
            }

        pub join_table_done : {T' : List ℕ} → T' ≡ recut_table (in_use_of z) z.b x K i T → T' ≡ merged_table (store_of z keys table buffers) i k t
        unfolding recut_table merged_table
        join_table_done is =
            let p : joined_part z.b x K ≡ merged_at σ i x k = part_joined here in
            let q : drop (5 * length (cut (in_use σ) (merged_at σ i x k))) (drop (5 * i) T) ≡ raised (z.s - (i + 1)) z.b (drop (5 * (i + 1)) table) ++ drop (5 * (z.s - 1 + t)) table =
            ap (λ (m : ℕ). drop (5 * m) (drop (5 * i) T)) (sym asked.pieces) ∙ past raisen ∙ last_is in
            is ∙ rw (p, front raisen, q, asked.entry) refl

pub ruleset join_cases = (join_used, join_keys_asks, join_later, join_recut, join_keys_done, join_table_done)
