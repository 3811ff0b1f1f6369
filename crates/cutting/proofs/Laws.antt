-- The cases of the loops: over the keys of one segment, and from segment to segment, alone and with the table that is filled.
-- Assumes nothing.
use Rattle.std.specs.Prelude.{Option, Some, None}
use mathlib.Core.Path.{◌≡◌, refl, sym, ap, ◌∙◌}
use mathlib.Core.List.{List, ◌∷◌, ◌++◌}
use Prim.Native.Nat.{ℕ, suc, ◌+◌, ◌-◌, ◌*◌, ◌≤◌, ◌<◌}
use native.Mathlib.Nat.{le_refl, le_of_lt, add-zero}
use native.Mathlib.Numerals.{add-one, towards_suc}
use native.Mathlib.Omega.{arith}
use lib.Dec.{ltb}
use lib.ListN.{length, get_or, set, take, drop, length-drop}
use lib.Seq.{sets, length-sets, drop-drop}
use borrow.Author.Tests.{eq-eqb, ne_eqb, ltb-true, ltb-false}
use Rattle.lists.proofs.Tests.{either}
use Rattle.terms.proofs.Keys.{rising_lt}
use Rattle.cone.specs.declared.Cone.{Cone}
use Rattle.cone.specs.Rule.{Segment, segment_of, cut}
use Rattle.cone.specs.Step.{Ready, start_of, step_of}
use Rattle.cone.specs.Keys.{Cuttable}
use Rattle.cone.specs.Walk.{Open}
use Rattle.cone.proofs.Walk.{Next, open_start, next_key, open_ready, open_joins, open_count, open_joined, open_apart}
use Rattle.cutting.specs.Rows.{row_of, rows_of, Room, Writable, Known}
use Rattle.cutting.specs.Ends.{size_from, size_of, cut_at, Startable}
use Rattle.cutting.proofs.Rows.{Filled, filled_none, filled_all, fill}
use Rattle.cutting.proofs.Ends.{size_joined, size_apart, size_none, at_none, at_start, at_next, size_some, size_most, size_lent, lent_counts, lent_startable}
use mir.Syntax.{w64}
use mir.Val.{Fits}

-- ---- the first segment: the cone stands for its keys up to j, and what is left decides how many it has

pub record Sizing (e : ℕ) (ks : List ℕ) (j : ℕ) (c : Cone) : Type 0 where
  pub keys : Cuttable e ks
  pub segment : Open e ks 0 j c
  pub rest : (r : ℕ) → j + r ≡ length ks → size_of e ks 0 ≡ size_from e ks 0 c.count r

pub size_start : (e : ℕ) (ks : List ℕ) {c : Cone} → Startable e ks → c ≡ start_of e (get_or ks 0 0) → Sizing e ks 1 c
unfolding size_of
size_start e ks asked is =
    rw is
    (record {
      keys = asked.keys;
      segment = open_start e ks 0 asked.some refl;
      rest = λ r q. ap (λ (m : ℕ). size_from e ks 0 1 m) (omega arith);
    })

module _ {e : ℕ} {ks : List ℕ} {j : ℕ} {c : Cone} (w : Sizing e ks j c) where
  next : j < length ks → Next ks j c (get_or ks j 0)
  next more = next_key w.segment w.keys more refl

  counted : c.count ≡ j
  counted = omega (arith, w.segment.counted)

  pub size_ready : j < length ks → Ready e c (record { 0 = get_or ks j 0 })
  size_ready more = open_ready w.segment (next more) w.keys.bound w.keys.few

  pub size_on : {s : Option Cone} {d : Cone} → j < length ks → s ≡ step_of e c (get_or ks j 0) → s ≡ Some d → Sizing e ks (j + 1) d
  size_on {s} {d} more is q =
      let one : d.count ≡ suc c.count = open_count w.segment (next more) is q ∙ add-one c.count in
      record {
        keys = w.keys;
        segment = open_joined w.segment (next more) is q;
        rest = λ r p.
            w.rest (suc r) (omega arith) ∙ size_joined e ks 0 c.count r (open_joins w.segment (next more) is q)
            ∙ ap (λ (m : ℕ). size_from e ks 0 m r) (sym one);
      }

  pub size_here : {s : Option Cone} → j < length ks → s ≡ step_of e c (get_or ks j 0) → s ≡ None → j ≡ size_of e ks 0
  size_here more is q =
      sym
      (w.rest (suc (length ks - (j + 1))) (omega arith)
      ∙ size_apart e ks 0 c.count (length ks - (j + 1)) (open_apart w.segment (next more) is q) ∙ counted)

  pub size_last : length ks ≤ j → j ≡ size_of e ks 0
  size_last over = sym (w.rest 0 (omega (arith, w.segment.inside)) ∙ size_none e ks 0 c.count ∙ counted)

pub ruleset size_cases = (size_start, size_ready, size_on, size_here, size_last)

-- ---- from segment to segment: n are closed, and the rest of the cut is the cut from i

pub record Counting (e : ℕ) (ks : List ℕ) (i n : ℕ) : Type 0 where
  pub keys : Cuttable e ks
  pub inside : i ≤ length ks
  pub closed : n ≤ i
  pub few : n ≤ length (cut e ks)
  pub rest : drop n (cut e ks) ≡ cut_at e ks i

pub count_start : (e : ℕ) (ks : List ℕ) → Cuttable e ks → Counting e ks 0 0
count_start e ks keys = record { keys = keys; inside = omega arith; closed = omega arith; few = omega arith; rest = at_start e ks }

module _ {e : ℕ} {ks : List ℕ} {i n : ℕ} (w : Counting e ks i n) where
  pub count_asks : i < length ks → Startable e (take (length ks - i) (drop i ks))
  count_asks more = lent_startable e ks i w.keys more

  -- the next segment
  next_is : i < length ks → drop n (cut e ks) ≡ segment_of ks i (size_of e ks i) ∷ cut_at e ks (i + size_of e ks i)
  next_is more = w.rest ∙ at_next e ks i more

  open_left : i < length ks → n < length (cut e ks)
  open_left more = omega (arith, simp length-drop at (ap length (next_is more)))

  module _ {c : ℕ} (more : i < length ks) (is : c ≡ size_of e (take (length ks - i) (drop i ks)) 0) where
    size_is : c ≡ size_of e ks i
    size_is = is ∙ size_lent e ks i

    some_keys : 0 < c
    some_keys = rw size_is (size_some e ks i more)

    pub end_most : i + c ≤ length ks
    end_most = rw size_is (size_most e ks i more)

    pub count_on : Counting e ks (i + c) (n + 1)
    count_on =
        record {
          keys = w.keys;
          inside = end_most;
          closed = omega (arith, w.closed, some_keys);
          few = omega (arith, open_left more);
          rest = rw size_is (sym (drop-drop 1 n (cut e ks)) ∙ ap (λ (l : List Segment). drop 1 l) (next_is more));
        }

    pub count_fits : Fits w64 (i + c)
    count_fits = record { fits = omega (arith, end_most, w.keys.few) }

    pub count_less : length ks - (i + c) < length ks - i
    count_less = omega (arith, end_most, some_keys)

  pub count_end : length ks ≤ i → n ≡ length (cut e ks)
  count_end over = omega (arith, w.few, simp length-drop at (ap length (w.rest ∙ at_none e ks i over)))

  -- where the cut has a segment more, keys are left; where that is the last, it has them all
  pub some_left : n < length (cut e ks) → i < length ks
  some_left h = either (ltb i (length ks)) (λ t. ltb-true i (length ks) t) (λ t. absurd (omega (arith, count_end (ltb-false i (length ks) t))))

  last_size : n + 1 ≡ length (cut e ks) → length ks - i ≡ size_of e ks i
  last_size h =
      let more : i < length ks = some_left (omega arith) in
      let none : length (cut_at e ks (i + size_of e ks i)) ≡ 0 = omega (arith, simp length-drop at (ap length (next_is more))) in
      either (ltb (i + size_of e ks i) (length ks))
      (λ t. absurd (omega (arith, ap length (at_next e ks (i + size_of e ks i) (ltb-true (i + size_of e ks i) (length ks) t)))))
      (λ t. omega (arith, ltb-false (i + size_of e ks i) (length ks) t, size_most e ks i more))

  pub last_lent : n + 1 ≡ length (cut e ks) → length ks - i ≡ size_of e (take (length ks - i) (drop i ks)) 0
  last_lent h = last_size h ∙ sym (size_lent e ks i)

pub ruleset count_cases = (count_start, count_asks, lent_counts, count_on, count_fits, count_less, count_end)

-- ---- one row: five stores

pub run_one : (ks : List ℕ) (i c : ℕ) → c ≡ 1 → 1 ≡ (segment_of ks i c).run
unfolding segment_of
run_one ks i c q = simp (eq-eqb _ _ q)

pub run_more : (ks : List ℕ) (i c : ℕ) → (c ≡ 1 → ⊥) → get_or ks (i + (c - 1)) 0 - get_or ks i 0 ≡ (segment_of ks i c).run
unfolding segment_of
run_more ks i c q = simp (ne_eqb _ _ q)

pub ruleset run_cases = (run_one, run_more)

pub row_written :
    (t ks : List ℕ) (n i c from : ℕ) {run : ℕ} → run ≡ (segment_of ks i c).run
    → set (set (set (set (set t (5 * n) (get_or ks i 0)) (5 * n + 1) (from + i)) (5 * n + 2) (c - 1)) (5 * n + 3) run) (5 * n + 4) 0
    ≡ sets t (5 * n) (row_of from (segment_of ks i c))
unfolding segment_of
row_written t ks n i c from q = simp (towards_suc, q)

-- ---- with the table: it holds the rows of the n segments, and behind them what stood there before

pub record Writing (e : ℕ) (ks : List ℕ) (from : ℕ) (t : List ℕ) (i n : ℕ) (table : List ℕ) : Type 0 where
  pub asked : Writable e ks from t
  pub count : Counting e ks i n
  pub filled : table ≡ Filled from (cut e ks) t n
  pub long : length table ≡ length t

pub write_start : (e : ℕ) (ks : List ℕ) (from : ℕ) (t : List ℕ) → Writable e ks from t → Writing e ks from t 0 0 t
write_start e ks from t asked =
    record { asked = asked; count = count_start e ks asked.keys; filled = filled_none from (cut e ks) t; long = refl }

module _ {e : ℕ} {ks : List ℕ} {from : ℕ} {t : List ℕ} {i n : ℕ} {table : List ℕ} (w : Writing e ks from t i n table) where
  pub write_asks : i < length ks → Startable e (take (length ks - i) (drop i ks))
  write_asks more = count_asks w.count more

  module _ {c : ℕ} (more : i < length ks) (is : c ≡ size_of e (take (length ks - i) (drop i ks)) 0) where
    first_last : get_or ks i 0 ≤ get_or ks (i + (c - 1)) 0
    first_last =
        either (ltb 1 c)
        (λ u. le_of_lt (rising_lt ks w.asked.keys.rising i (i + (c - 1)) (omega (arith, ltb-true 1 c u)) (omega (arith, end_most w.count more is, some_keys w.count more is))))
        (λ u. let one : c - 1 ≡ 0 = omega (arith, ltb-false 1 c u) in rw (one, add-zero) (le_refl (get_or ks i 0)))

    pub room_asks : Room ks i c from table n
    room_asks =
        record {
          stretch = record { some = some_keys w.count more is; inside = end_most w.count more is; ordered = first_last };
          place = omega (arith, w.asked.place);
          held = omega (arith, w.long, w.asked.room, open_left w.count more);
        }

    pub write_on : {table' : List ℕ} → table' ≡ sets table (5 * n) (row_of from (segment_of ks i c)) → Writing e ks from t (i + c) (n + 1) table'
    write_on {table'} wrote =
        record {
          asked = w.asked;
          count = count_on w.count more is;
          filled =
              wrote ∙ ap (λ (v : List ℕ). sets v (5 * n) (row_of from (segment_of ks i c))) w.filled
              ∙ fill from (cut e ks) t n (segment_of ks i c) (cut_at e ks (i + c)) (rw (size_is w.count more is) (next_is w.count more)) w.asked.room;
          long = ap length wrote ∙ length-sets table (5 * n) (row_of from (segment_of ks i c)) ∙ w.long;
        }

    pub write_fits : Fits w64 (i + c)
    write_fits = count_fits w.count more is

    pub write_less : length ks - (i + c) < length ks - i
    write_less = count_less w.count more is

  pub write_counts : length ks ≤ i → n ≡ length (cut e ks)
  write_counts over = count_end w.count over

  pub write_end : length ks ≤ i → table ≡ rows_of from (cut e ks) ++ drop (5 * n) t
  write_end over = w.filled ∙ filled_all from (cut e ks) t n (sym (write_counts over))

pub ruleset write_cases = (write_start, write_asks, lent_counts, room_asks, write_on, write_fits, write_less, write_counts, write_end)

-- ---- with the number of segments known

pub record Filling (e : ℕ) (ks : List ℕ) (from : ℕ) (t : List ℕ) (m i n : ℕ) (table : List ℕ) : Type 0 where
  pub writing : Writing e ks from t i n table
  pub known : m ≡ length (cut e ks)
  pub below : n + 1 ≤ m

module _ (e : ℕ) (ks : List ℕ) (from : ℕ) (t : List ℕ) (m : ℕ) (asked : Known e ks from t m) where
  pub known_some : 1 ≤ m
  known_some = omega (arith, asked.pieces, ap length (at_start e ks ∙ at_next e ks 0 asked.some))

  pub known_start : Filling e ks from t m 0 0 t
  known_start = record { writing = write_start e ks from t asked.writable; known = asked.pieces; below = omega (arith, known_some) }

module _ {e : ℕ} {ks : List ℕ} {from : ℕ} {t : List ℕ} {m i n : ℕ} {table : List ℕ} (f : Filling e ks from t m i n table) where
  keys_left : i < length ks
  keys_left = some_left f.writing.count (omega (arith, f.known, f.below))

  pub known_inside : i ≤ length ks
  known_inside = omega (arith, keys_left)

  pub known_asks : Startable e (take (length ks - i) (drop i ks))
  known_asks = write_asks f.writing keys_left

  module _ {c : ℕ} (is : c ≡ size_of e (take (length ks - i) (drop i ks)) 0) where
    pub known_room : Room ks i c from table n
    known_room = room_asks f.writing keys_left is

    pub known_fits : Fits w64 (i + c)
    known_fits = write_fits f.writing keys_left is

    pub known_on : {table' : List ℕ} → n < m - 1 → table' ≡ sets table (5 * n) (row_of from (segment_of ks i c)) → Filling e ks from t m (i + c) (n + 1) table'
    known_on h wrote = record { writing = write_on f.writing keys_left is wrote; known = f.known; below = omega (arith, h) }

  module _ (over : m - 1 ≤ n) where
    at_last : n + 1 ≡ length (cut e ks)
    at_last = omega (arith, f.known, f.below, over)

    here : m - 1 ≡ n
    here = omega (arith, f.below, over)

    pub last_room : Room ks i (length ks - i) from table (m - 1)
    last_room = rw here (room_asks f.writing keys_left (last_lent f.writing.count at_last))

    pub last_done : {table' : List ℕ} → table' ≡ sets table (5 * (m - 1)) (row_of from (segment_of ks i (length ks - i))) → table' ≡ rows_of from (cut e ks) ++ drop (5 * m) t
    last_done wrote =
        let same : n + 1 ≡ m = at_last ∙ sym f.known in
        write_end (write_on f.writing keys_left (last_lent f.writing.count at_last) (rw here at wrote)) (omega arith)
        ∙ ap (λ (l : ℕ). rows_of from (cut e ks) ++ drop (5 * l) t) same

pub ruleset known_cases = (known_some, known_start, known_inside, known_asks, lent_counts, known_room, known_fits, known_on, last_room, last_done)
