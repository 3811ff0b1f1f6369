-- Laws of a stretch that goes up, and the cases of the loops that move it.
-- Assumes nothing.
use mathlib.Core.Path.{◌≡◌, refl, sym, ap, ◌∙◌}
use mathlib.Core.List.{List, ◌++◌, append_assoc}
use Prim.Native.Nat.{ℕ, suc, ◌+◌, ◌-◌, ◌≤◌, ◌<◌}
use native.Mathlib.Nat.{add-zero, sub-zero, sub_self, suc-add}
use native.Mathlib.Omega.{arith}
use lib.ListN.{length, take, drop, get_or, set, length-drop, length-set}
use lib.Seq.{paste, length-take-le, take-length, take-take, take-add, drop-drop}
use Rattle.lists.proofs.Lists.{set_take_suc, get_d_take_append, take_drop_suc, drop_take}
use Rattle.lists.specs.Moved.{moved}
use Rattle.lists.proofs.Moved.{moved_is, moved_none, moved_still, length_moved, take_moved, drop_moved}
use Rattle.moves.specs.Shift.{Movable, Moving}

-- a turn: the cell at a goes to a + by, where those above it are there already
pub shift_turn :
    (xs : List ℕ) (a n by a⁺ n⁺ : ℕ) → a⁺ ≡ suc a → n⁺ ≡ suc n → a + by + n⁺ ≤ length xs
    → set (moved a⁺ n (a⁺ + by) xs) (a + by) (get_or (moved a⁺ n (a⁺ + by) xs) a 0) ≡ moved a n⁺ (a + by) xs
unfolding moved
shift_turn xs a n by a⁺ n⁺ ea en h =
    let ha : a < suc (a + by) = omega arith in
    let hb : suc (a + by) ≤ length xs = omega arith in
    let hl : a < length xs = omega arith in
    let e : a + by + suc n ≡ suc (a + by + n) = omega arith in
    simp (ea, en, suc-add, e, get_d_take_append, set_take_suc, take_drop_suc xs a n 0 hl)

-- ---- a block

-- a stretch that is read and written again further up has gone up
module _ (s : List ℕ) (a by : ℕ) (asked : Movable s a 16 by) {c : List ℕ} (read : c ≡ take 16 (drop a s)) where
  block_length : length c ≡ 16
  block_length = ap length read ∙ length-take-le 16 (drop a s) (omega (arith, asked, length-drop a s))

  pub block_moved : {s' : List ℕ} → s' ≡ paste s (a + by) c (length c) → s' ≡ moved a 16 (a + by) s
  unfolding moved
  block_moved is =
      is ∙ ap (λ (l : List ℕ). take (a + by) s ++ l ++ drop (a + by + length c) s) (take-length c)
      ∙ append_assoc (take (a + by) s) c (drop (a + by + length c) s)
      ∙ ap (λ (n : ℕ). take (a + by) s ++ (c ++ drop (a + by + n) s)) block_length
      ∙ ap (λ (l : List ℕ). take (a + by) s ++ (l ++ drop (a + by + 16) s)) read

pub ruleset block_cases = (block_moved)

-- the b cells before a moved stretch go up to it: b + n have gone up
module _ (xs : List ℕ) (b a n by a⁺ n⁺ : ℕ) (ea : a⁺ ≡ a + b) (en : n⁺ ≡ b + n) (h : a + by + n⁺ ≤ length xs) where
  abbrev gone : List ℕ
  gone = moved a⁺ n (a⁺ + by) xs

  front_same : take (a⁺ + by) gone ≡ take (a⁺ + by) xs
  front_same = take_moved xs a⁺ n (a⁺ + by) (omega arith)

  low : take (a + by) gone ≡ take (a + by) xs
  low = sym (take-take (a + by) (a⁺ + by) gone (omega arith)) ∙ ap (take (a + by)) front_same ∙ take-take (a + by) (a⁺ + by) xs (omega arith)

  front_part : (l : List ℕ) → take b (drop a l) ≡ take b (drop a (take (a⁺ + by) l))
  front_part l = sym (take-take b (a⁺ + by - a) (drop a l) (omega arith)) ∙ ap (take b) (sym (drop_take a (a⁺ + by) l))

  block : take b (drop a gone) ≡ take b (drop a xs)
  block = front_part gone ∙ ap (λ (l : List ℕ). take b (drop a l)) front_same ∙ sym (front_part xs)

  high : drop (a + by + b) gone ≡ take n (drop a⁺ xs) ++ drop (a + by + n⁺) xs
  high =
      let e : a + by + b ≡ a⁺ + by = omega arith in
      let f : a⁺ + by + n ≡ a + by + n⁺ = omega arith in
      ap (λ (m : ℕ). drop m gone) e ∙ drop_moved xs a⁺ n (a⁺ + by) (omega arith) ∙ ap (λ (m : ℕ). take n (drop a⁺ xs) ++ drop m xs) f

  whole : take n⁺ (drop a xs) ≡ take b (drop a xs) ++ take n (drop a⁺ xs)
  whole =
      ap (λ (m : ℕ). take m (drop a xs)) en ∙ take-add b n (drop a xs)
      ∙ ap (λ (l : List ℕ). take b (drop a xs) ++ take n l) (drop-drop b a xs ∙ ap (λ (m : ℕ). drop m xs) (sym ea))

  shift_block : moved a b (a + by) (moved a⁺ n (a⁺ + by) xs) ≡ moved a n⁺ (a + by) xs
  shift_block = moved_is gone a b (a + by) ∙ rw (low, block, high, whole) (ap (λ (l : List ℕ). take (a + by) xs ++ l) (sym (append_assoc (take b (drop a xs)) (take n (drop a⁺ xs)) (drop (a + by + n⁺) xs)))) ∙ sym (moved_is xs a n⁺ (a + by))

-- ---- the loops

module _ (xs : List ℕ) (from count by : ℕ) where
  pub shift_still : by ≡ 0 → xs ≡ moved from count (from + by) xs
  shift_still z = rw (z, add-zero) (sym (moved_still xs from count))

  pub moving_start : Moving xs from count by xs count
  moving_start = record { few = omega arith; same = refl; is = rw sub_self (sym (moved_none xs (from + count) (from + count + by))) }

  module _ (s : List ℕ) (left : ℕ) (w : Moving xs from count by s left) where
    moving_turn : Movable xs from count by → 0 < left → Moving xs from count by (set s (from + (left - 1) + by) (get_or s (from + (left - 1)) 0)) (left - 1)
    moving_turn m h =
        record {
          few = omega arith;
          same = simp length-set w.same;
          is = rw w.is (shift_turn xs (from + (left - 1)) (count - left) by (from + left) (count - (left - 1)) (omega arith) (omega arith) (omega arith));
        }

    module _ (m : Movable xs from count by) (whole : 16 ≤ left) where
      moving_asks : Movable s (from + (left - 16)) 16 by
      moving_asks = record { fits = omega (arith, m, w.few, w.same) }

      pub moving_on : {s' : List ℕ} → s' ≡ moved (from + (left - 16)) 16 (from + (left - 16) + by) s → Moving xs from count by s' (left - 16)
      moving_on {s'} is =
          record {
            few = omega (arith, w.few);
            same = ap length is ∙ length_moved s (from + (left - 16)) 16 (from + (left - 16) + by) (omega (arith, moving_asks)) (omega (arith, moving_asks)) ∙ w.same;
            is =
                is ∙ ap (moved (from + (left - 16)) 16 (from + (left - 16) + by)) w.is
                ∙ shift_block xs 16 (from + (left - 16)) (count - left) by (from + left) (count - (left - 16)) (omega arith) (omega (arith, w.few)) (omega (arith, m, w.few));
          }

    moving_end : left ≤ 0 → s ≡ moved from count (from + by) xs
    moving_end h = let z : left ≡ 0 = omega arith in w.is ∙ simp (z, add-zero, sub-zero)

-- ---- the blocks have gone up, and then what is left

module _ (xs : List ℕ) (from count by : ℕ) (m : Movable xs from count by) (s : List ℕ) (left : ℕ) (w : Moving xs from count by s left) where
  rest_asks : Movable s from left by
  rest_asks = record { fits = omega (arith, m, w.few, w.same) }

  module _ (s' : List ℕ) (left' : ℕ) (v : Moving s from left by s' left') where
    pub rest_turn : 0 < left' → Moving s from left by (set s' (from + (left' - 1) + by) (get_or s' (from + (left' - 1)) 0)) (left' - 1)
    rest_turn h = moving_turn s from left by s' left' v rest_asks h

    pub rest_end : left' ≤ 0 → s' ≡ moved from count (from + by) xs
    rest_end h =
        moving_end s from left by s' left' v h ∙ ap (moved from left (from + by)) w.is
        ∙ shift_block xs left from (count - left) by (from + left) count refl (omega (arith, w.few)) (omega (arith, m))

pub ruleset blocks_cases = (moving_start, moving_on)

pub ruleset shift_cases = (shift_still, moving_start, rest_turn, rest_end)
