-- The cases of each function, over what its callees ensure and what its tests say.
-- Assumes nothing.
use Rattle.std.specs.Prelude.{Option, Some, None, Ok, Err}
use Rattle.terms.specs.declared.Refusal.TheVariants.{StoreWrong}
use mathlib.Core.Path.{◌≡◌, refl, sym, ap, ◌∙◌}
use mathlib.Core.Bool.{Bool, true, false, not}
use mathlib.Core.List.{List, [], ◌∷◌, ◌++◌}
use Prim.Native.Nat.{ℕ, suc, ◌+◌, ◌-◌, ◌≤◌, ◌<◌}
use native.Mathlib.Nat.{add-zero}
use native.Mathlib.Omega.{arith}
use lib.Dec.{leb}
use lib.ListN.{length, set, length-append}
use Rattle.lists.specs.Tests.{both}
use Rattle.lists.specs.Merge.{merge}
use Rattle.lists.specs.Between.{between}
use Rattle.lists.specs.Over.{over, Space, Writing}
use Rattle.lists.proofs.Merging.{length_merge}
use Rattle.lists.proofs.Listed.{one_listed, one_left, between_cons, between_short}
use Rattle.lists.proofs.Over.{set_over, writing_start, writing_step, writing_end, writing_place}
use Rattle.terms.specs.Keys.{is_key, rising_from}
use Rattle.terms.specs.Limits.{cut_most}
use Rattle.terms.specs.declared.Entry.{Entry}
use Rattle.terms.specs.declared.Sizes.{Sizes}
use Rattle.table.specs.Store.{Store, store_of}
use Rattle.table.specs.Entries.{Row, entry_of, entry_in, run_of, used_of}
use Rattle.table.specs.Damaged.{Sound, damaged_of}
use Rattle.table.specs.Reads.{merged_in, stretch_of}
use Rattle.table.proofs.Damages.{sound_of, damaged_false}
use Rattle.scan.proofs.Laws.{fail_here, fail_on, fail_end}
use Rattle.order.specs.declared.Cursor.{Cursor}
use Rattle.order.specs.Order.{pair_start, rest_of, next_of}
use Rattle.order.proofs.Rest.{next_key, next_end, pair_all}
use Rattle.order.specs.Bound.{floor_of, above_of, last_of}
use Rattle.choose.specs.Stretch.{keys_in}
use Rattle.segment.proofs.Laws.{run_held, used_held, lent}
use Rattle.range_stretch.specs.Stretch.{fine_of, judged_of, follows_of, walked_of, seen_of}
use Rattle.range_stretch.specs.Asks.{Countable, Few, Walking, Seeable, Stretch, Judging, Placeable, Fillable, Filling}
use Rattle.range_stretch.proofs.Stretches.{keys_more, keys_none, keys_first, before_next, before_first, merged_few, walked_none, walked_falls, walked_on, Passed, seen_rose, seen_fell}

-- ---- follows, tally, put_key

module _ (before : Option ℕ) (k : ℕ) {a : Bool} (over : a ≡ above_of before k) where
  pub follows_not : a ≡ false → a ≡ follows_of before k
  follows_not h = h ∙ rw (sym over ∙ h) refl

  pub follows_last : {r : Bool} → a ≡ true → r ≡ is_key k → r ≡ follows_of before k
  follows_last h is = rw (sym over ∙ h) is

pub ruleset follows_cases = (follows_not, follows_last)

module _ (low high k : ℕ) {w : Bool} (is : w ≡ both (leb low k) (leb k high)) where
  module _ (yes : w ≡ true) where
    one : between low high (k ∷ []) ≡ k ∷ []
    one = one_listed low high k (sym is ∙ yes)

    pub tally_more : (seen : ℕ) → seen + 1 ≡ seen + length (between low high (k ∷ []))
    tally_more seen = ap (λ (l : List ℕ). seen + length l) (sym one)

    pub put_room : (out : List ℕ) (at : ℕ) → Space out at (length (between low high (k ∷ []))) → at < length out
    put_room out at h = let l : length (between low high (k ∷ [])) ≡ 1 = ap length one in omega (arith, h.inside)

    pub put_written : (out : List ℕ) (at : ℕ) → set out at k ≡ over out at (between low high (k ∷ []))
    put_written out at = set_over out at k ∙ ap (over out at) (sym one)

  module _ (no_more : w ≡ false) where
    none : between low high (k ∷ []) ≡ []
    none = one_left low high k (sym is ∙ no_more)

    pub tally_same : (seen : ℕ) → seen ≡ seen + length (between low high (k ∷ []))
    tally_same seen = sym (ap (λ (l : List ℕ). seen + length l) none ∙ add-zero seen)

    pub put_left : (out : List ℕ) (at : ℕ) → out ≡ over out at (between low high (k ∷ []))
    unfolding over
    put_left out at = ap (over out at) (sym none)

pub ruleset tally_cases = (tally_more, tally_same)

pub ruleset put_key_cases = (tally_more, tally_same, put_room, put_written, put_left)

-- ---- walk

module _ (low high : ℕ) (before : Option ℕ) (seen : ℕ) (run used : List ℕ) where
  pub walk_start : {m : Cursor} → Few seen run used → m ≡ pair_start → Walking low high before seen run used before seen m
  walk_start w e =
      rw e
      (record {
        few = rw (pair_all run used 0, length_merge run used) w.few;
        so_far = ap (walked_of low high before seen) (sym (pair_all run used 0));
      })

  module _ {last : Option ℕ} {count : ℕ} {m : Cursor} (so : Walking low high before seen run used last count m) {n : Option (ℕ × Cursor)} (is : n ≡ next_of m run used 0) where
    pub walk_end : n ≡ None → Some (last, count) ≡ walked_of low high before seen (merge run used)
    walk_end q =
        sym (so.so_far ∙ ap (walked_of low high last count) (next_end m run used 0 (sym is ∙ q)) ∙ walked_none low high last count)

    module _ {k : ℕ} {past : Cursor} (key : n ≡ Some (k, past)) where
      rest_is : rest_of m run used 0 ≡ k ∷ rest_of past run used 0
      rest_is = next_key m run used 0 k past (sym is ∙ key)

      rest_length : length (rest_of m run used 0) ≡ suc (length (rest_of past run used 0))
      rest_length = ap length rest_is

      pub walk_counts : Countable count
      walk_counts = record { few = omega (arith, so.few, rest_length) }

      pub walk_less : length (rest_of past run used 0) < length (rest_of m run used 0)
      walk_less = omega (arith, rest_length)

      module _ {f : Bool} (tested : f ≡ follows_of last k) where
        pub walk_bad : f ≡ false → None ≡ walked_of low high before seen (merge run used)
        walk_bad q =
            sym (so.so_far ∙ ap (walked_of low high last count) rest_is ∙ walked_falls low high last count k (rest_of past run used 0) (sym tested ∙ q))

        pub walk_on : {more : ℕ} → f ≡ true → more ≡ count + length (between low high (k ∷ [])) → Walking low high before seen run used (Some k) more past
        walk_on {more} q e =
            let l : length (between low high (k ∷ [])) ≤ 1 = between_short low high (k ∷ []) in
            record {
              few = omega (arith, so.few, rest_length);
              so_far =
                  so.so_far ∙ ap (walked_of low high last count) rest_is ∙ walked_on low high last count k (rest_of past run used 0) (sym tested ∙ q)
                  ∙ ap (λ (c : ℕ). walked_of low high (Some k) c (rest_of past run used 0)) (sym e);
            }

pub ruleset walk_cases = (walk_start, walk_end, walk_counts, walk_less, walk_bad, walk_on)

-- ---- see

module _ (z : Sizes) (keys table buffers : List ℕ) (i seen : ℕ) where
  abbrev σ : Store
  σ = store_of z keys table buffers

  pub see_row : Seeable σ i seen → Row table z.s i
  see_row w = omega (arith, w.segment)

  pub see_few : {x : Entry} {run used : List ℕ} → Seeable σ i seen → Sound z.b z.n x → run ≡ run_of keys x → used ≡ used_of z.b buffers i x.held → Few seen run used
  see_few {x} w sound p q =
      record { few = omega (arith, lent z keys table buffers w.segment.limits i x w.segment.inside sound p q, sound, w.segment.limits, w.few) }

  module _ (low high : ℕ) (before : Option ℕ) {x : Entry} (entry : x ≡ entry_of z.n z.s table i) {g : Bool} (good : g ≡ damaged_of z.b z.n x) where
    pub see_damaged : g ≡ true → None ≡ seen_of σ low high i before seen
    unfolding seen_of
    see_damaged h = let d : damaged_of z.b z.n (entry_in σ i) ≡ true = cc in rw d refl

    pub see_walked : {run used : List ℕ} {r : Option (Option ℕ × ℕ)} → g ≡ false → run ≡ run_of keys x → used ≡ used_of z.b buffers i x.held →
        r ≡ walked_of low high before seen (merge run used) → r ≡ seen_of σ low high i before seen
    unfolding seen_of
    see_walked h p q is = let d : damaged_of z.b z.n (entry_in σ i) ≡ false = cc in rw d (rw (p, q, entry) at is)

pub ruleset see_cases = (see_row, sound_of, run_held, used_held, see_few, see_damaged, see_walked)

-- ---- judge_stretch

module _ (σ : Store) (low high a to : ℕ) where
  pub judge_start : Judging σ low high a to a None 0
  judge_start =
      record {
        from = omega arith;
        inside = omega arith;
        last = before_first σ a;
        counts = sym (ap length (keys_none σ low high a a (omega arith)));
        few = omega arith;
        so_far = refl;
      }

  module _ (i : ℕ) (before : Option ℕ) (seen : ℕ) (so : Judging σ low high a to i before seen) where
    pub judge_end : to ≤ i → Ok seen ≡ judged_of σ low high a to
    unfolding judged_of
    judge_end h =
        let m : i - a ≡ to - a = omega (arith, so.inside) in
        let c : seen ≡ length (keys_in σ low high a to) = so.counts ∙ ap (λ (d : ℕ). length (between low high (stretch_of σ a d))) m in
        rw (fail_end (fine_of σ a) a to i so.so_far h) (ap Ok c)

    module _ (more : i < to) where
      pub judge_asks : Stretch σ a to → Seeable σ i seen
      judge_asks w =
          record {
            segment = record { limits = w.limits; inside = omega (arith, w.inside) };
            few = omega (arith, so.few, so.from, w.inside, w.limits.s_limit);
          }

      module _ {w : Option (Option ℕ × ℕ)} (is : w ≡ seen_of σ low high i before seen) where
        test : both (not (damaged_of σ.b σ.n (entry_in σ i))) (rising_from (floor_of before) (merged_in σ i)) ≡ fine_of σ a i
        unfolding fine_of
        test = rw so.last refl

        pub judge_bad : w ≡ None → Err (StoreWrong i) ≡ judged_of σ low high a to
        unfolding judged_of
        judge_bad q =
            let f : _ = fail_here (fine_of σ a) a to i so.so_far more test (seen_fell σ low high i before seen (sym is ∙ q)) in
            rw f refl

        module _ {last : Option ℕ} {count : ℕ} (q : w ≡ Some (last, count)) where
          passed : Passed σ low high i before seen last count
          passed = seen_rose σ low high i before seen last count (sym is ∙ q)

          fine : both (not (damaged_of σ.b σ.n (entry_in σ i))) (rising_from (floor_of before) (merged_in σ i)) ≡ true
          fine = rw (passed.sound, passed.rises) refl

          pub judge_on : Stretch σ a to → Judging σ low high a to (i + 1) last count
          judge_on asked =
              let l : length (keys_in σ low high a (i + 1)) ≡ length (keys_in σ low high a i) + length (between low high (merged_in σ i))
              = ap length (keys_more σ low high a i so.from) ∙ length-append (keys_in σ low high a i) (between low high (merged_in σ i)) in
              let few : length (merged_in σ i) ≤ cut_most = merged_few σ i asked.limits (damaged_false _ _ _ passed.sound) in
              record {
                from = omega (arith, so.from);
                inside = omega (arith, so.from);
                last = passed.last_is ∙ ap (λ (z : Option ℕ). last_of z (merged_in σ i)) so.last ∙ before_next σ a i so.from;
                counts = omega (arith, passed.more_is, so.counts, l);
                few = omega (arith, passed.more_is, so.few, so.from, few, between_short low high (merged_in σ i));
                so_far = fail_on (fine_of σ a) a to i so.so_far more test fine;
              }

pub ruleset judge_cases = (judge_start, judge_end, judge_asks, judge_bad, judge_on)

-- ---- put_keys, put_parts, put_segment

-- what is written of the merged order, with the cursor at m and the next place p
abbrev pub Putting : ℕ → ℕ → List ℕ → List ℕ → List ℕ → ℕ → Cursor → List ℕ → ℕ → Type 0
Putting low high run used out₀ at m out p = Writing out₀ at (between low high (merge run used)) out p (between low high (rest_of m run used 0))

module _ (low high : ℕ) (run used out₀ : List ℕ) (at : ℕ) where
  pub keys_start : {m : Cursor} → Space out₀ at (length (between low high (merge run used))) → m ≡ pair_start → Putting low high run used out₀ at m out₀ at
  keys_start h e = rw (e, pair_all run used 0) (writing_start out₀ at (between low high (merge run used)) h.inside)

  module _ (m : Cursor) (out : List ℕ) (p : ℕ) (so : Putting low high run used out₀ at m out p) {n : Option (ℕ × Cursor)} (is : n ≡ next_of m run used 0) where
    module _ (over_now : n ≡ None) where
      done : Writing out₀ at (between low high (merge run used)) out p []
      unfolding between
      done = rw (next_end m run used 0 (sym is ∙ over_now)) at so

      pub keys_end : out ≡ over out₀ at (between low high (merge run used))
      keys_end = writing_end out₀ at (between low high (merge run used)) out p done

      pub keys_place : p ≡ at + length (between low high (merge run used))
      keys_place = writing_place out₀ at (between low high (merge run used)) out p done

    module _ {k : ℕ} {past : Cursor} (key : n ≡ Some (k, past)) where
      head : rest_of m run used 0 ≡ k ∷ rest_of past run used 0
      head = next_key m run used 0 k past (sym is ∙ key)

      parted : Writing out₀ at (between low high (merge run used)) out p (between low high (k ∷ []) ++ between low high (rest_of past run used 0))
      parted = rw (head, between_cons low high k (rest_of past run used 0)) at so

      pub keys_asks : Space out p (length (between low high (k ∷ [])))
      keys_asks =
          record { inside = omega (arith, parted.room, parted.same, length-append (between low high (k ∷ [])) (between low high (rest_of past run used 0))) }

      pub keys_less : length (rest_of past run used 0) < length (rest_of m run used 0)
      keys_less = let l : length (rest_of m run used 0) ≡ suc (length (rest_of past run used 0)) = ap length head in omega (arith, l)

      pub keys_on : {out' : List ℕ} {p' : ℕ} → out' ≡ over out p (between low high (k ∷ [])) → p' ≡ p + length (between low high (k ∷ [])) →
          Putting low high run used out₀ at past out' p'
      keys_on {out'} {p'} f g =
          writing_step out₀ at (between low high (merge run used)) out p (between low high (k ∷ [])) (between low high (rest_of past run used 0)) parted out' f p' g

pub ruleset keys_cases = (keys_start, keys_end, keys_place, keys_asks, keys_less, keys_on)

module _ (z : Sizes) (keys table buffers : List ℕ) (low high i : ℕ) (out : List ℕ) (at : ℕ) where
  abbrev τ : Store
  τ = store_of z keys table buffers

  pub put_row : Placeable τ low high i out at → Row table z.s i
  put_row w = omega (arith, w.segment)

  module _ {x : Entry} (entry : x ≡ entry_of z.n z.s table i) where
    pub put_sound : Placeable τ low high i out at → Sound z.b z.n x
    put_sound w = rw entry w.sound

    module _ {run used : List ℕ} (p : run ≡ run_of keys x) (q : used ≡ used_of z.b buffers i x.held) where
      lists : merge run used ≡ merged_in τ i
      lists = rw (p, q, entry) refl

      pub put_asks : Placeable τ low high i out at → Space out at (length (between low high (merge run used)))
      put_asks w = rw lists w.room

      pub put_next : {r : ℕ} → r ≡ at + length (between low high (merge run used)) → r ≡ at + length (between low high (merged_in τ i))
      put_next is = rw lists at is

      pub put_over : {out' : List ℕ} → out' ≡ over out at (between low high (merge run used)) → out' ≡ over out at (between low high (merged_in τ i))
      put_over is = rw lists at is

pub ruleset put_segment_cases = (put_row, put_sound, run_held, used_held, put_asks, put_next, put_over)

-- ---- fill

module _ (σ : Store) (low high a to : ℕ) (out₀ : List ℕ) where
  pub fill_start : Fillable σ low high a to out₀ → Filling σ low high a to out₀ a out₀ 0
  fill_start w = record { from = omega arith; writing = writing_start out₀ 0 (keys_in σ low high a to) (omega (arith, w.room)) }

  module _ (i : ℕ) (out : List ℕ) (at : ℕ) (so : Filling σ low high a to out₀ i out at) where
    pub fill_end : to ≤ i → out ≡ over out₀ 0 (keys_in σ low high a to)
    fill_end h = writing_end out₀ 0 (keys_in σ low high a to) out at (rw (keys_none σ low high i to h) at so.writing)

    module _ (more : i < to) where
      split : Writing out₀ 0 (keys_in σ low high a to) out at (between low high (merged_in σ i) ++ keys_in σ low high (i + 1) to)
      split = rw (keys_first σ low high i to more) at so.writing

      pub fill_asks : Fillable σ low high a to out₀ → Placeable σ low high i out at
      fill_asks w =
          record {
            segment = record { limits = w.stretch.limits; inside = omega (arith, w.stretch.inside) };
            sound = w.sound i so.from more;
            room = record { inside = omega (arith, split.room, split.same, length-append (between low high (merged_in σ i)) (keys_in σ low high (i + 1) to)) };
          }

      pub fill_on : {out' : List ℕ} {at' : ℕ} → out' ≡ over out at (between low high (merged_in σ i)) → at' ≡ at + length (between low high (merged_in σ i)) →
          Filling σ low high a to out₀ (i + 1) out' at'
      fill_on {out'} {at'} f g =
          record {
            from = omega (arith, so.from);
            writing = writing_step out₀ 0 (keys_in σ low high a to) out at (between low high (merged_in σ i)) (keys_in σ low high (i + 1) to) split out' f at' g;
          }

pub ruleset fill_cases = (fill_start, fill_end, fill_asks, fill_on)
