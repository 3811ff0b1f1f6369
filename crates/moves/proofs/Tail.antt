-- The cases of a table's tail: its entries go up, and their bases grow.
-- Assumes nothing.
use mathlib.Core.Path.{◌≡◌, refl, sym, ap, ◌∙◌}
use mathlib.Core.List.{List, [], ◌∷◌, ◌++◌, append_assoc}
use Prim.Native.Nat.{ℕ, zero, suc, ◌+◌, ◌-◌, ◌*◌, ◌^◌, ◌≤◌, ◌<◌}
use native.Mathlib.Nat.{zero-add}
use native.Mathlib.Omega.{arith}
use native.Mathlib.Numerals.{add-one}
use lib.ListN.{length, take, drop, get_or, set, length-drop, length-set}
use lib.Seq.{drop-drop, get_or-drop, drop_at, length-take-le}
use borrow.Rule.Slice.PartMut.{put_mid}
use Rattle.lists.proofs.Lists.{set_past, get_d_past, get_d_take_append, tail_is, tail_back}
use Rattle.lists.specs.Moved.{moved}
use Rattle.moves.specs.Shift.{Movable}
use Rattle.moves.specs.Tail.{raised, raised_up, Raisable, Tail, Raising}
use Rattle.lists.proofs.Moved.{take_moved, drop_moved, length_moved}

pub length_raised : (c by : ℕ) (cells : List ℕ) → length (raised c by cells) ≡ 5 * c
unfolding raised
length_raised zero by cells = refl
length_raised (suc c) by cells = omega (arith, length_raised c by (drop 5 cells))

-- one entry more, at the end
pub raised_more : (c by : ℕ) (cells : List ℕ) → raised (suc c) by cells ≡ raised c by cells ++ raised 1 by (drop (5 * c) cells)
unfolding raised
raised_more zero by cells = refl
raised_more (suc c) by cells =
    let e : 5 * suc c ≡ 5 + 5 * c = omega arith in
    let d : drop (5 * suc c) cells ≡ drop (5 * c) (drop 5 cells) = ap (λ (m : ℕ). drop m cells) e ∙ sym (drop-drop (5 * c) 5 cells) in
    ap (λ (l : List ℕ). get_or cells 0 0 ∷ ((get_or cells 1 0 + by) ∷ (get_or cells 2 0 ∷ (get_or cells 3 0 ∷ (get_or cells 4 0 ∷ l)))))
    (raised_more c by (drop 5 cells) ∙ ap (λ (l : List ℕ). raised c by (drop 5 cells) ++ raised 1 by l) (sym d))

-- a store into the base of the first entry
one_raised : (by : ℕ) (ys : List ℕ) → 5 ≤ length ys → set ys 1 (get_or ys 1 0 + by) ≡ raised 1 by ys ++ drop 5 ys
unfolding raised
one_raised by [] h = absurd (omega arith)
one_raised by (a ∷ []) h = absurd (omega arith)
one_raised by (a ∷ (b ∷ [])) h = absurd (omega arith)
one_raised by (a ∷ (b ∷ (c ∷ []))) h = absurd (omega arith)
one_raised by (a ∷ (b ∷ (c ∷ (d ∷ [])))) h = absurd (omega arith)
one_raised by (a ∷ (b ∷ (c ∷ (d ∷ (f ∷ ys))))) h = refl

-- what follows the entries takes no part
pub raised_front : (c by : ℕ) (p q : List ℕ) → 5 * c ≤ length p → raised c by (p ++ q) ≡ raised c by p
unfolding raised
raised_front zero by p q h = refl
raised_front (suc c) by [] q h = absurd (omega arith)
raised_front (suc c) by (x1 ∷ []) q h = absurd (omega arith)
raised_front (suc c) by (x1 ∷ (x2 ∷ [])) q h = absurd (omega arith)
raised_front (suc c) by (x1 ∷ (x2 ∷ (x3 ∷ []))) q h = absurd (omega arith)
raised_front (suc c) by (x1 ∷ (x2 ∷ (x3 ∷ (x4 ∷ [])))) q h = absurd (omega arith)
raised_front (suc c) by (x1 ∷ (x2 ∷ (x3 ∷ (x4 ∷ (x5 ∷ p))))) q h =
    ap (λ (l : List ℕ). x1 ∷ ((x2 + by) ∷ (x3 ∷ (x4 ∷ (x5 ∷ l))))) (raised_front c by p q (omega arith))

pub raised_take : (c by : ℕ) (xs : List ℕ) → 5 * c ≤ length xs → raised c by (take (5 * c) xs) ≡ raised c by xs
unfolding raised
raised_take zero by xs h = refl
raised_take (suc c) by [] h = absurd (omega arith)
raised_take (suc c) by (x1 ∷ []) h = absurd (omega arith)
raised_take (suc c) by (x1 ∷ (x2 ∷ [])) h = absurd (omega arith)
raised_take (suc c) by (x1 ∷ (x2 ∷ (x3 ∷ []))) h = absurd (omega arith)
raised_take (suc c) by (x1 ∷ (x2 ∷ (x3 ∷ (x4 ∷ [])))) h = absurd (omega arith)
raised_take (suc c) by (x1 ∷ (x2 ∷ (x3 ∷ (x4 ∷ (x5 ∷ xs))))) h =
    let e : 5 * suc c ≡ suc (suc (suc (suc (suc (5 * c))))) = omega arith in
    ap (λ (m : ℕ). raised (suc c) by (take m (x1 ∷ (x2 ∷ (x3 ∷ (x4 ∷ (x5 ∷ xs))))))) e
    ∙ ap (λ (l : List ℕ). x1 ∷ ((x2 + by) ∷ (x3 ∷ (x4 ∷ (x5 ∷ l))))) (raised_take c by xs (omega arith))

-- ---- the loop over the bases

module _ (xs : List ℕ) (entries add : ℕ) where
  pub raise_start : Raising xs entries add xs 0
  unfolding raised
  raise_start = record { few = omega arith; same = refl; is = refl }

  module _ (t : List ℕ) (i : ℕ) (w : Raising xs entries add t i) (asked : Raisable xs entries add) where
    here : i < entries → get_or t (5 * i + 1) 0 ≡ get_or xs (5 * i + 1) 0
    here h =
        ap (λ (l : List ℕ). get_or l (5 * i + 1) 0) w.is
        ∙ get_d_past (raised i add xs) (drop (5 * i) xs) (5 * i) 1 (5 * i + 1) 0 (length_raised i add xs) refl
        ∙ get_or-drop (5 * i) xs 1 0

    pub raise_fits : i < entries → get_or t (5 * i + 1) 0 + add < 2 ^ 64
    raise_fits h = rw (here h) (asked.fit i h)

    pub raise_turn : i < entries → Raising xs entries add (set t (5 * i + 1) (get_or t (5 * i + 1) 0 + add)) (i + 1)
    raise_turn h =
        let d : List ℕ = drop (5 * i) xs in
        let five : 5 ≤ length d = omega (arith, length-drop (5 * i) xs, asked.held) in
        let e : 5 * suc i ≡ 5 * i + 5 = omega arith in
        record {
          few = omega arith;
          same = length-set t (5 * i + 1) (get_or t (5 * i + 1) 0 + add) ∙ w.same;
          is =
              ap (λ (v : ℕ). set t (5 * i + 1) (v + add)) (here h ∙ sym (get_or-drop (5 * i) xs 1 0))
              ∙ ap (λ (l : List ℕ). set l (5 * i + 1) (get_or d 1 0 + add)) w.is
              ∙ set_past (raised i add xs) d (5 * i) 1 (5 * i + 1) (get_or d 1 0 + add) (length_raised i add xs) refl
              ∙ ap (λ (l : List ℕ). raised i add xs ++ l) (one_raised add d five)
              ∙ sym (append_assoc (raised i add xs) (raised 1 add d) (drop 5 d))
              ∙ ap (λ (l : List ℕ). l ++ drop 5 d) (sym (raised_more i add xs))
              ∙ rw (add-one i, e, drop-drop 5 (5 * i) xs) refl;
        }

    pub raise_end : entries ≤ i → t ≡ raised entries add xs ++ drop (5 * entries) xs
    raise_end h = let z : i ≡ entries = omega (arith, w.few) in w.is ∙ ap (λ (c : ℕ). raised c add xs ++ drop (5 * c) xs) z

pub ruleset bases_cases = (raise_start, raise_fits, raise_turn, raise_end)

-- ---- the tail: its entries go up first, and are raised from where they stand then

module _ (xs : List ℕ) (entries places add : ℕ) (asked : Tail xs entries places add) where
  pub tail_shift : Movable xs 0 (5 * entries) (5 * places)
  tail_shift = record { fits = omega (arith, asked.held) }

  module _ {s : List ℕ} (up : s ≡ moved 0 (5 * entries) (0 + 5 * places) xs) where
    is : s ≡ moved 0 (5 * entries) (5 * places) xs
    is = up ∙ ap (λ (to : ℕ). moved 0 (5 * entries) to xs) (zero-add (5 * places))

    long : length s ≡ length xs
    long = ap length is ∙ length_moved xs 0 (5 * entries) (5 * places) (omega (arith, asked.held)) (omega (arith, asked.held))

    below : take (5 * places) s ≡ take (5 * places) xs
    below = ap (take (5 * places)) is ∙ take_moved xs 0 (5 * entries) (5 * places) (omega (arith, asked.held))

    above : drop (5 * places) s ≡ take (5 * entries) xs ++ drop (5 * places + 5 * entries) xs
    above = ap (drop (5 * places)) is ∙ drop_moved xs 0 (5 * entries) (5 * places) (omega (arith, asked.held))

    pub tail_inside : 5 * places ≤ length s
    tail_inside = omega (arith, long, asked.held)

    pub tail_asks : Raisable (take (length s - 5 * places) (drop (5 * places) s)) entries add
    tail_asks =
        rw (tail_is s (5 * places))
        (record {
          held = omega (arith, length-drop (5 * places) s, long, asked.held);
          fit = λ i h. rw (above, get_d_take_append xs (drop (5 * places + 5 * entries) xs) (5 * entries) (5 * i + 1) 0 (omega arith) (omega (arith, asked.held)))
              (asked.fit i h);
        })

    pub tail_done :
        {r : List ℕ} → r ≡ raised entries add (take (length s - 5 * places) (drop (5 * places) s)) ++ drop (5 * entries) (take (length s - 5 * places) (drop (5 * places) s))
        → put_mid (5 * places) (length s - 5 * places) s r ≡ raised_up entries places add xs
    unfolding raised_up
    tail_done {r} got =
        let l : length (take (5 * entries) xs) ≡ 5 * entries = length-take-le (5 * entries) xs (omega (arith, asked.held)) in
        let last : List ℕ = drop (5 * places + 5 * entries) xs in
        let up : raised entries add (drop (5 * places) s) ≡ raised entries add xs =
        ap (raised entries add) above ∙ raised_front entries add (take (5 * entries) xs) last (omega (arith, l)) ∙ raised_take entries add xs (omega (arith, asked.held)) in
        let past : drop (5 * entries) (drop (5 * places) s) ≡ last = ap (drop (5 * entries)) above ∙ drop_at (take (5 * entries) xs) last (5 * entries) l in
        tail_back s r (5 * places) tail_inside
        ∙ ap (λ (q : List ℕ). take (5 * places) s ++ q)
        (got ∙ ap (λ (q : List ℕ). raised entries add q ++ drop (5 * entries) q) (tail_is s (5 * places)))
        ∙ rw (below, up, past) refl

pub ruleset tail_cases = (tail_shift, tail_inside, tail_asks, tail_done)
