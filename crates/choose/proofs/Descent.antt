-- The cases of the walk that chooses, entry by entry, four and sixteen at a time.
-- Assumes nothing.
use mathlib.Core.Path.{◌≡◌, refl, sym, ◌∙◌}
use mathlib.Core.Bool.{Bool, true}
use mathlib.Core.List.{List}
use Prim.Native.Nat.{ℕ, zero, suc, ◌+◌, ◌-◌, ◌*◌, ◌≤◌, ◌<◌}
use native.Mathlib.Omega.{arith}
use lib.Dec.{leb, ltb}
use lib.ListN.{length, get_or, take}
use lib.Seq.{get_or-take, length-take-le}
use borrow.Author.Tests.{le-leb, lt-leb, leb-true, leb-false, ltb-true}
use Rattle.lists.specs.Tests.{both}
use Rattle.lists.proofs.Tests.{either, both_true}
use Rattle.table.specs.Entries.{Rows}
use Rattle.choose.specs.Chosen.{chosen_of}
use Rattle.choose.specs.Descent.{passed_of, sixteen_of, Fourth, Descended}

-- a walk down the table from s that has come to i: what is left decides
module _ (t : List ℕ) (s k i : ℕ) (done : Descended t s k i) where
  pub walk_here : 1 < i → get_or t (5 * (i - 1)) 0 ≤ k → i - 1 ≡ chosen_of t s k
  unfolding chosen_of
  walk_here h l = let e : i ≡ suc (i - 1) = omega arith in simp (le-leb _ _ l) at (rw e at done.so_far)

  walk_down : 0 < i → k < get_or t (5 * (i - 1)) 0 → Descended t s k (i - 1)
  unfolding chosen_of
  walk_down h l =
      let e : i ≡ suc (i - 1) = omega arith in
      record { inside = omega (arith, done.inside); so_far = simp (lt-leb _ _ l) at (rw e at done.so_far) }

  pub walk_on : 1 < i → k < get_or t (5 * (i - 1)) 0 → Descended t s k (i - 1)
  walk_on h l = walk_down (omega (arith, h)) l

  -- the lowest entry is the answer whatever its first key is
  pub walk_end : i ≤ 1 → 0 ≡ chosen_of t s k
  unfolding chosen_of
  walk_end h = go i done.so_far h
    where
      go : (j : ℕ) → chosen_of t j k ≡ chosen_of t s k → j ≤ 1 → 0 ≡ chosen_of t s k
      go zero e l = e
      go (suc zero) e l = either (leb (get_or t (5 * 0) 0) k) (λ q. simp q at e) (λ q. simp q at e)
      go (suc (suc j)) e l = absurd (omega (arith, l))

  pub walk_inside : i ≤ s
  walk_inside = done.inside

pub walk_start : (t : List ℕ) (s k : ℕ) → Descended t s k s
walk_start t s k = record { inside = omega arith; so_far = refl }

-- one entry, or none
pub walk_one : (t : List ℕ) (s k : ℕ) → s < 2 → 0 ≡ chosen_of t s k
walk_one t s k h = walk_end t s k s (walk_start t s k) (omega (arith, h))

-- the first s entries are as good as the table
part_same : (t : List ℕ) (m s k : ℕ) → 5 * s ≤ m → chosen_of (take m t) s k ≡ chosen_of t s k
unfolding chosen_of
part_same t m zero k h = refl
part_same t m (suc s) k h = rw (get_or-take m t (5 * s) 0 (omega arith), part_same t m s k (omega arith)) refl

module _ (t : List ℕ) (s k : ℕ) (rows : Rows t s) where
  pub some_asks : Rows (take (5 * s) t) s
  some_asks = record { few = rows.few; held = omega (arith, length-take-le (5 * s) t rows.held) }

  pub some_chosen : {r : ℕ} → r ≡ chosen_of (take (5 * s) t) s k → r ≡ chosen_of t s k
  some_chosen is = is ∙ part_same t (5 * s) s k (omega arith)

pub ruleset some_cases = (walk_one, some_asks, some_chosen)

pub ruleset few_cases = (walk_here, walk_on, walk_end, walk_inside, walk_start)

-- ---- four entries

module _ (t : List ℕ) (i k : ℕ) where
  module _ (h : Fourth t i) where
    cell_1 : 5 * (i - 4) + 15 ≡ 5 * (i - 1)
    cell_1 = omega (arith, h.four)

    cell_2 : 5 * (i - 4) + 10 ≡ 5 * (i - 2)
    cell_2 = omega (arith, h.four)

    cell_3 : 5 * (i - 4) + 5 ≡ 5 * (i - 3)
    cell_3 = omega (arith, h.four)

    pub passed_0 : get_or t (5 * (i - 4) + 15) 0 ≤ k → 0 ≡ passed_of t i k 0 4
    unfolding passed_of
    passed_0 l = simp (le-leb _ _ (rw cell_1 at l))

    module _ (a : k < get_or t (5 * (i - 4) + 15) 0) where
      pub passed_1 : get_or t (5 * (i - 4) + 10) 0 ≤ k → 1 ≡ passed_of t i k 0 4
      unfolding passed_of
      passed_1 l = simp (lt-leb _ _ (rw cell_1 at a), le-leb _ _ (rw cell_2 at l))

      module _ (b : k < get_or t (5 * (i - 4) + 10) 0) where
        pub passed_2 : get_or t (5 * (i - 4) + 5) 0 ≤ k → 2 ≡ passed_of t i k 0 4
        unfolding passed_of
        passed_2 l = simp (lt-leb _ _ (rw cell_1 at a), lt-leb _ _ (rw cell_2 at b), le-leb _ _ (rw cell_3 at l))

        module _ (c : k < get_or t (5 * (i - 4) + 5) 0) where
          pub passed_3 : get_or t (5 * (i - 4)) 0 ≤ k → 3 ≡ passed_of t i k 0 4
          unfolding passed_of
          passed_3 l = simp (lt-leb _ _ (rw cell_1 at a), lt-leb _ _ (rw cell_2 at b), lt-leb _ _ (rw cell_3 at c), le-leb _ _ l)

          pub passed_4 : k < get_or t (5 * (i - 4)) 0 → 4 ≡ passed_of t i k 0 4
          unfolding passed_of
          passed_4 l = simp (lt-leb _ _ (rw cell_1 at a), lt-leb _ _ (rw cell_2 at b), lt-leb _ _ (rw cell_3 at c), lt-leb _ _ l)

    -- the reads
    pub passed_held : (j : ℕ) → j < 16 → 5 * (i - 4) + j < length t
    passed_held j l = omega (arith, h.rows.held, h.four, l)

  passed_most : (c a : ℕ) → passed_of t i k a c ≤ a + c
  unfolding passed_of
  passed_most zero a = omega arith
  passed_most (suc c) a = either (leb (get_or t (5 * (i - suc a)) 0) k) (λ q. simp q (omega arith)) (λ q. simp q (omega (arith, passed_most c (suc a))))

  -- where the passing ends early, that entry is at most k
  passed_hit : (c a : ℕ) → passed_of t i k a c < a + c → get_or t (5 * (i - suc (passed_of t i k a c))) 0 ≤ k
  unfolding passed_of
  passed_hit zero a = λ h. absurd (omega arith)
  passed_hit (suc c) a =
      either (leb (get_or t (5 * (i - suc a)) 0) k) (λ q. simp q (λ h. leb-true _ _ q)) (λ q. simp q (λ h. passed_hit c (suc a) (omega arith)))

  -- and the walk goes on below those that were passed
  passed_down : (s c a : ℕ) → a + c < i → Descended t s k (i - a) → Descended t s k (i - passed_of t i k a c)
  unfolding passed_of
  passed_down s zero a h done = done
  passed_down s (suc c) a h done =
      either (leb (get_or t (5 * (i - suc a)) 0) k) (λ q. simp q done)
      (λ q. simp q (passed_down s c (suc a) (omega arith) (one_down a (omega arith) (leb-false _ _ q) done)))
    where
      one_down : (a : ℕ) → a < i → k < get_or t (5 * (i - suc a)) 0 → Descended t s k (i - a) → Descended t s k (i - suc a)
      one_down a l above done =
          let e : i - a - 1 ≡ i - suc a = omega arith in
          let p : 0 < i - a = omega arith in
          let m : k < get_or t (5 * (i - a - 1)) 0 = rw e above in
          rw e at (walk_down t s k (i - a) done p m)

pub ruleset passed_cases = (passed_0, passed_1, passed_2, passed_3, passed_4, passed_held)

-- ---- the walk by fours, and what is left of it

pub down_rows : (t : List ℕ) (s k i : ℕ) → Rows t s → Descended t s k i → Rows t i
down_rows t s k i rows done = record { few = omega (arith, rows.few, done.inside); held = omega (arith, rows.held, done.inside) }

module _ (t : List ℕ) (s k i : ℕ) (done : Descended t s k i) where
  pub four_asks : Rows t s → 4 < i → Fourth t i
  four_asks rows h = record { rows = down_rows t s k i rows done; four = h }

  below : {p : ℕ} → 4 < i → p ≡ passed_of t i k 0 4 → Descended t s k (i - p)
  below h is = let e : i - 0 ≡ i = omega arith in rw is (passed_down t i k s 4 0 (omega arith) (rw e done))

  module _ {p : ℕ} (h : 4 < i) (is : p ≡ passed_of t i k 0 4) where
    pub four_hit : p < 4 → i - p - 1 ≡ chosen_of t s k
    four_hit l =
        let e : i - suc p ≡ i - p - 1 = omega arith in
        let q : get_or t (5 * (i - suc p)) 0 ≤ k = rw is (passed_hit t i k 4 0 (rw is at l)) in
        walk_here t s k (i - p) (below h is) (omega arith) (rw e at q)

    pub four_on : 4 ≤ p → Descended t s k (i - 4)
    four_on l = let e : p ≡ 4 = omega (arith, is, passed_most t i k 4 0) in rw e at (below h is)

  pub few_asks : Rows t s → Rows t i
  few_asks rows = down_rows t s k i rows done

  pub few_left : {r : ℕ} → r ≡ chosen_of t i k → r ≡ chosen_of t s k
  few_left is = is ∙ done.so_far

pub ruleset walk_cases = (four_asks, four_hit, four_on, few_asks, few_left)

-- ---- sixteen entries are four fours

four_lower : (i a : ℕ) → i - a - 4 ≡ i - (a + 4)
four_lower i a = omega arith

module _ (t : List ℕ) (i k : ℕ) {r : Bool} (answer : r ≡ sixteen_of t i k) (yes : r ≡ true) where
  sixteen_there : 16 < i
  unfolding sixteen_of
  sixteen_there = ltb-true _ _ (both_true _ _ (sym answer ∙ yes)).0

  pub leap_least : 16 ≤ i
  leap_least = omega (arith, sixteen_there)

  pub leap_less : i - 16 < i
  leap_less = omega (arith, sixteen_there)

  pub leap_on : (s : ℕ) → Descended t s k i → Descended t s k (i - 16)
  unfolding sixteen_of
  leap_on s done =
      let f : ℕ → Bool = λ a. leb 4 (passed_of t (i - a) k 0 4) in
      let g : Bool = leb 4 (passed_of t i k 0 4) in
      let b : (g ≡ true) × (both (f 4) (both (f 8) (f 12)) ≡ true) = both_true g (both (f 4) (both (f 8) (f 12))) (both_true (ltb 16 i) (both g (both (f 4) (both (f 8) (f 12)))) (sym answer ∙ yes)).1 in
      let c : (f 4 ≡ true) × (both (f 8) (f 12) ≡ true) = both_true (f 4) (both (f 8) (f 12)) b.1 in
      let d : (f 8 ≡ true) × (f 12 ≡ true) = both_true (f 8) (f 12) c.1 in
      let d4 : Descended t s k (i - 4) = four_on t s k i done (omega (arith, sixteen_there)) refl (leb-true _ _ b.0) in
      let d8 : Descended t s k (i - 8) = rw (four_lower i 4) at (four_on t s k (i - 4) d4 (omega (arith, sixteen_there)) refl (leb-true _ _ c.0)) in
      let d12 : Descended t s k (i - 12) = rw (four_lower i 8) at (four_on t s k (i - 8) d8 (omega (arith, sixteen_there)) refl (leb-true _ _ d.0)) in
      rw (four_lower i 12) at (four_on t s k (i - 12) d12 (omega (arith, sixteen_there)) refl (leb-true _ _ d.1))

pub ruleset leap_cases = (walk_start, leap_least, leap_less, leap_on, down_rows)
