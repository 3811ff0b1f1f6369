-- The cases of the tests, and of the walk that counts.
-- Assumes nothing.
use Rattle.std.specs.Prelude.{Option, Some, None, min}
use mathlib.Core.Path.{◌≡◌, refl, sym, ap, ◌∙◌}
use mathlib.Core.Bool.{Bool, true, false}
use mathlib.Core.List.{List, [], ◌∷◌}
use Prim.Native.Nat.{ℕ, suc, ◌+◌, ◌-◌, ◌*◌, ◌≤◌, ◌<◌}
use native.Mathlib.Omega.{arith}
use mir.Syntax.{w64}
use mir.Val.{Fits}
use lib.Dec.{leb}
use lib.ListN.{length, drop, get_or, length-drop}
use borrow.Author.Tests.{leb-true, le-leb, lt-leb, ltb-true, lt-ltb}
use Rattle.lists.specs.Tests.{both}
use Rattle.lists.specs.Rising.{up_of}
use Rattle.lists.specs.Merge.{merge, insert_sorted}
use Rattle.lists.proofs.Heads.{up_on, up_off}
use Rattle.lists.proofs.Tests.{both_true, either}
use Rattle.lists.proofs.Lists.{drop_head, drop_next}
use Rattle.lists.proofs.Merging.{length_merge, length_insert}
use Rattle.terms.specs.Limits.{key_limit, cut_most}
use Rattle.terms.specs.Keys.{is_key, IsKey, rising_keys, rising_from}
use Rattle.order.specs.declared.Cursor.{Cursor}
use Rattle.order.specs.Order.{key_start, past_run, rest_of, next_of, bound_of}
use Rattle.order.proofs.Rest.{next_key, next_end, key_all, run_comes}
use Rattle.cone.specs.declared.Cone.{Cone}
use Rattle.cone.specs.Rule.{cut}
use Rattle.cone.specs.Step.{Ready, start_of, grown, lets, step_of}
use Rattle.cone.proofs.Laws.{step_joined}
use Rattle.cone.proofs.Walk.{Next as NextKey, walk_start, walk_ready, walk_joined, walk_apart, walk_counts}
use Rattle.insert_pieces.specs.declared.Walked.{Walked}
use Rattle.insert_pieces.specs.Judged.{after_of, cutting_of, Judgeable, Begun}
use Rattle.insert_pieces.specs.Walked.{Counting, Takable, Took, Takes, Joinable, Joining, Joins, Along, Gone, reached, Going}

-- ---- after

pub after_key : (before x : ℕ) {r : Bool} → before < x → r ≡ is_key x → r ≡ after_of before x
unfolding after_of
after_key before x h is = simp (le-leb _ _ h) is

pub after_not : (before x : ℕ) → x ≤ before → false ≡ after_of before x
unfolding after_of
after_not before x h = let l : x < suc before = omega arith in simp (lt-leb _ _ l)

pub ruleset after_cases = (after_key, after_not)

-- nothing is below 0
first_key : (x : ℕ) {r : Bool} → r ≡ is_key x → r ≡ both (leb 0 x) (is_key x)
first_key x is = let l : 0 ≤ x = omega arith in simp (le-leb _ _ l) is

-- ---- the first key of a merged order
module _ (run used : List ℕ) (k : ℕ) {m : Cursor} (begin : m ≡ key_start) {n : Option (ℕ × Cursor)} (is : n ≡ next_of m run used k) where
  whole : rest_of m run used k ≡ merge run (insert_sorted k used)
  whole = rw begin (key_all run used k)

  all_is : {x : ℕ} {past : Cursor} → n ≡ Some (x, past) → merge run (insert_sorted k used) ≡ x ∷ rest_of past run used k
  all_is {x} {past} q = sym whole ∙ next_key m run used k x past (sym is ∙ q)

  -- the key itself is in the merged order
  pub pieces_none : (e : ℕ) → n ≡ None → None ≡ cutting_of e (merge run (insert_sorted k used))
  pieces_none e q =
      absurd (omega (arith, ap length (sym whole ∙ next_end m run used k (sym is ∙ q)), length_merge run (insert_sorted k used), length_insert k used))

  module _ {x : ℕ} {past : Cursor} (key : n ≡ Some (x, past)) {r : Bool} (tested : r ≡ is_key x) where
    large : r ≡ false → rising_keys (merge run (insert_sorted k used)) ≡ false
    large q = ap rising_keys (all_is key) ∙ up_off 0 key_limit x (rest_of past run used k) (first_key x tested) q

    pub pieces_large : (e : ℕ) → r ≡ false → None ≡ cutting_of e (merge run (insert_sorted k used))
    unfolding cutting_of
    pieces_large e q = simp (large q)

    pub pieces_begun : (e : ℕ) → Judgeable e run used → r ≡ true → Begun e past x run used k
    pieces_begun e asked q = record { asked = asked; key = ltb-true _ _ (sym tested ∙ q); first = all_is key }

pub ruleset pieces_cases = (pieces_none, pieces_large, pieces_begun)

-- ---- counting along it

module _ (e : ℕ) (run used : List ℕ) (k : ℕ) where
  abbrev keys : List ℕ
  keys = merge run (insert_sorted k used)

  few_keys : Judgeable e run used → length keys ≡ length run + (length used + 1)
  few_keys asked = omega (arith, length_merge run (insert_sorted k used), length_insert k used)

  pub count_start : (m : Cursor) {x : ℕ} {c : Cone} → Begun e m x run used k → c ≡ start_of e x → Counting e run used k (record { at = m; last = x; closed = 0; cone = c })
  count_start m {x} begun is =
      let some : 0 < length keys = omega (arith, ap length begun.first) in
      let small : is_key x ≡ true = lt-ltb _ _ begun.key in
      rw is
      (record {
        asked = begun.asked;
        base = 0;
        come = 1;
        walk = walk_start e keys some (sym (drop_head keys 0 x (rest_of m run used k) 0 begun.first));
        rest = drop_next keys 0 x (rest_of m run used k) begun.first;
        ordered = omega arith;
        so_far = ap (rising_keys) begun.first ∙ up_on 0 key_limit x (rest_of m run used k) (first_key x refl) small;
      })

  pub count_end : (w : Walked) → Counting e run used k w → {n : Option (ℕ × Cursor)} → n ≡ next_of w.at run used k → n ≡ None → Some (w.closed + 1) ≡ cutting_of e (merge run (insert_sorted k used))
  unfolding cutting_of up_of
  count_end w counting is q =
      let none : rest_of w.at run used k ≡ [] = next_end w.at run used k (sym is ∙ q) in
      let up : rising_keys keys ≡ true = counting.so_far ∙ ap (rising_from (suc w.last)) none in
      let over : length keys ≤ counting.come = omega (arith, length-drop counting.come keys, ap length (counting.rest ∙ none)) in
      simp up (ap Some (walk_counts counting.walk over))

  pub count_small : (w : Walked) → Counting e run used k w → Fits w64 (w.closed + 1)
  count_small w c = record { fits = omega (arith, c.walk.closed, c.walk.segment.counted, c.walk.segment.inside, few_keys c.asked, c.asked.few) }

  -- one key more
  module _ (w : Walked) (x : ℕ) (past : Cursor) (takable : Takable e run used k w x past) where
    here : Counting e run used k w
    here = takable.counting

    rest_is : rest_of w.at run used k ≡ x ∷ rest_of past run used k
    rest_is = next_key w.at run used k x past takable.next

    heads : drop here.come keys ≡ x ∷ rest_of past run used k
    heads = here.rest ∙ rest_is

    pub taken_small : Fits w64 (w.closed + 1)
    taken_small = count_small w here

    module _ {r : Bool} (tested : r ≡ after_of w.last x) where
      pub taken_fallen : r ≡ false → None ≡ cutting_of e (merge run (insert_sorted k used))
      unfolding cutting_of after_of
      taken_fallen q =
          let up : rising_keys keys ≡ false =
          here.so_far ∙ ap (rising_from (suc w.last)) rest_is ∙ up_off (suc w.last) key_limit x (rest_of past run used k) tested q in
          simp up

      module _ (yes : r ≡ true) where
        next : NextKey keys here.come w.cone x
        unfolding after_of
        next =
            let t : (leb (suc w.last) x ≡ true) × (is_key x ≡ true) = both_true (leb (suc w.last) x) (is_key x) (sym tested ∙ yes) in
            record {
              more = omega (arith, length-drop here.come keys, ap length heads);
              is = sym (drop_head keys here.come x (rest_of past run used k) 0 heads);
              small = ltb-true _ _ t.1;
              after = omega (arith, leb-true (suc w.last) x t.0, here.ordered);
            }

        pub taken_ready : Ready e w.cone (record { 0 = x })
        taken_ready = walk_ready here.walk next here.asked.bound (omega (arith, few_keys here.asked, here.asked.few))

        rest_on : drop (here.come + 1) keys ≡ rest_of past run used k
        rest_on = drop_next keys here.come x (rest_of past run used k) heads

        up_next : rising_keys keys ≡ rising_from (suc x) (rest_of past run used k)
        unfolding after_of
        up_next = here.so_far ∙ ap (rising_from (suc w.last)) rest_is ∙ up_on (suc w.last) key_limit x (rest_of past run used k) tested yes

        module _ {s : Option Cone} (stepped : s ≡ step_of e w.cone x) where
          pub taken_joined : {d : Cone} → s ≡ Some d → Took e run used k past (record { at = past; last = x; closed = w.closed; cone = d })
          taken_joined {d} q =
              let t : (lets w.cone x ≡ true) × (d ≡ grown e w.cone x) = step_joined e w.cone x stepped q in
              record {
                counting =
                    record {
                      asked = here.asked;
                      base = here.base;
                      come = here.come + 1;
                      walk = walk_joined here.walk next stepped q;
                      rest = rest_on;
                      ordered = omega (arith, ap (λ (v : Cone). v.origin.0) t.1, next.after);
                      so_far = up_next;
                    };
                at_past = refl;
              }

          pub taken_apart : {d : Cone} → s ≡ None → d ≡ start_of e x → Took e run used k past (record { at = past; last = x; closed = w.closed + 1; cone = d })
          taken_apart {d} q start =
              rw start
              (record {
                counting =
                    record {
                      asked = here.asked;
                      base = here.come;
                      come = here.come + 1;
                      walk = walk_apart here.walk next stepped q;
                      rest = rest_on;
                      ordered = omega arith;
                      so_far = up_next;
                    };
                at_past = refl;
              })

pub ruleset taken_cases = (taken_small, taken_fallen, taken_ready, taken_joined, taken_apart)

-- ---- a stretch of the run

module _ (e : ℕ) (c : Cone) (last y : ℕ) (run : List ℕ) (i : ℕ) (more : i < length run) (up : get_or run i 0 ≤ y) (above : last < get_or run i 0) where
  pub joined_asks : Joinable e c last y run i → Ready e c (record { 0 = get_or run i 0 })
  joined_asks joinable = joinable.ready more up above

  pub joined_tried : (s : Option Cone) → s ≡ step_of e c (get_or run i 0) → Joins e c last y run i s
  joined_tried (Some d) is = record { inside = more; up = up; after = above; step = sym is }
  joined_tried None is = tt

pub ruleset joined_cases = (joined_asks, joined_tried)

module _ (e : ℕ) (run used : List ℕ) (k y : ℕ) (w : Walked) where
  pub going_start : Along e run used k w y → Going e run used k y w w.at.i w.last w.cone
  going_start asked = record { gone = record { counting = asked.counting; most = omega arith }; bound = asked.bound; small = asked.small }

  module _ (i last : ℕ) (c : Cone) (going : Going e run used k y w i last c) where
    abbrev v : Walked
    v = reached w i last c

    abbrev x : ℕ
    x = get_or run i 0

    pub going_end : Gone e run used k w (reached w i last c)
    going_end = going.gone

    -- the run's key comes next, and after the key before it: so one key more is counted
    comes : i < length run → x ≤ y → Takable e run used k v x (past_run v.at)
    comes more up =
        record { counting = going.gone.counting; next = run_comes v.at run used k (bound_of w.at used k) refl more (omega (arith, going.bound)) }

    after_last : x ≤ y → last < x → true ≡ after_of last x
    after_last up above = let small : IsKey x = omega (arith, going.small) in after_key last x above (sym (lt-ltb _ _ small))

    pub going_asks : Joinable e c last y run i
    going_asks = record { ready = λ more up above. taken_ready e run used k v x (past_run v.at) (comes more up) (after_last up above) refl }

    module _ {s : Option Cone} (joins : Joins e c last y run i s) {d : Cone} (q : s ≡ Some d) where
      joining : Joining e c last y run i d
      joining = rw q at joins

      few : i < cut_most
      few = omega (arith, joining.inside, going.gone.counting.asked.few)

      pub going_place : Fits w64 (i * 8)
      going_place = record { fits = omega (arith, few) }

      pub going_inside : i < length run
      going_inside = joining.inside

      pub going_next : Fits w64 (i + 1)
      going_next = record { fits = omega (arith, few) }

      pub going_less : length run - (i + 1) < length run - i
      going_less = omega (arith, joining.inside)

      pub going_on : Going e run used k y w (i + 1) (get_or run i 0) d
      going_on =
          let here : Takable e run used k v x (past_run v.at) = comes joining.inside joining.up in
          let took : Took e run used k (past_run v.at) (reached w (i + 1) x d) =
          taken_joined e run used k v x (past_run v.at) here (after_last joining.up joining.after) refl refl joining.step in
          record {
            gone =
                record {
                  counting = took.counting;
                  most = omega (arith, going.gone.most, ap length (next_key v.at run used k x (past_run v.at) here.next));
                };
            bound = going.bound;
            small = going.small;
          }

pub ruleset along_cases = (going_start, going_end, going_asks, going_place, going_inside, going_next, going_less, going_on)

-- ---- a stretch of the run, and the key that ends it

module _ (e : ℕ) (run used : List ℕ) (k : ℕ) (w : Walked) (counting : Counting e run used k w) where
  pub on_along : {z y : ℕ} → z ≡ bound_of w.at used k → y ≡ min z (key_limit - 1) → Along e run used k w y
  on_along is least = record { counting = counting; bound = omega (arith, is, least); small = omega (arith, least) }

  module _ {v : Walked} (gone : Gone e run used k w v) {n : Option (ℕ × Cursor)} (is : n ≡ next_of v.at run used k) where
    pub on_small : Fits w64 (v.closed + 1)
    on_small = count_small e run used k v gone.counting

    pub on_over : n ≡ None → Some (v.closed + 1) ≡ cutting_of e (merge run (insert_sorted k used))
    on_over p = count_end e run used k v gone.counting is p

    module _ {z : ℕ} {past : Cursor} (p : n ≡ Some (z, past)) where
      pub on_asks : Takable e run used k v z past
      on_asks = record { counting = gone.counting; next = sym is ∙ p }

      module _ {u : Option Walked} (takes : Takes e run used k past u) where
        pub on_fell : u ≡ None → None ≡ cutting_of e (merge run (insert_sorted k used))
        on_fell f = rw f at takes

        module _ {then : Walked} (f : u ≡ Some then) where
          took : Took e run used k past then
          took = rw f at takes

          pub on_counting : Counting e run used k then
          on_counting = took.counting

          pub on_less : length (rest_of then.at run used k) < length (rest_of w.at run used k)
          on_less =
              omega (
                arith,
                gone.most,
                ap (λ (m : Cursor). length (rest_of m run used k)) took.at_past,
                ap length (next_key v.at run used k z past (sym is ∙ p)),
              )

pub ruleset count_cases = (count_start, on_along, on_small, on_over, on_asks, on_fell, on_counting, on_less)

-- ---- what the answer says

pub cut_rises : (e : ℕ) (ks : List ℕ) {t : ℕ} → cutting_of e ks ≡ Some t → (rising_keys ks ≡ true) × (t ≡ length (cut e ks))
unfolding cutting_of
cut_rises e ks {t} =
    either (rising_keys ks)
    (λ u. simp u (λ q. (refl, sym (ap count q))))
    (λ u. simp u (λ q. absurd (let z : ◌≡◌ {A = ℕ} 0 1 = cc in omega arith)))
  where
    count : Option ℕ → ℕ
    count (Some t) = t
    count None = 0

pub unruly_falls : (e : ℕ) (ks : List ℕ) → cutting_of e ks ≡ None → rising_keys ks ≡ false
unfolding cutting_of
unruly_falls e ks =
    either (rising_keys ks)
    (λ u. simp u (λ q. absurd (let z : ◌≡◌ {A = ℕ} 0 1 = cc in omega arith)))
    (λ u. simp u (λ q. refl))
