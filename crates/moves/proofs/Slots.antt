-- The cases of the used slots that go up, the last segment first.
-- Assumes nothing.
use mathlib.Core.Path.{◌≡◌, refl, sym, ap, ◌∙◌}
use mathlib.Core.List.{List, [], ◌∷◌, ◌++◌, append_assoc}
use Prim.Native.Nat.{ℕ, zero, suc, ◌+◌, ◌-◌, ◌*◌, ◌≤◌, ◌<◌, zero-le}
use native.Mathlib.Nat.{le_refl, mul-le-mul_right, zero-mul}
use native.Mathlib.Omega.{arith}
use mir.Syntax.{w64}
use mir.Val.{Fits}
use lib.ListN.{length, take, drop, get_or, take-append-drop, length-drop}
use lib.Seq.{drop-drop, drop-cons, drop-length, get_or-drop, take-add}
use Rattle.lists.proofs.Lists.{take_front, drop_front}
use Rattle.lists.specs.Moved.{moved}
use Rattle.moves.specs.Shift.{Movable}
use Rattle.moves.specs.Slots.{held_of, laid, lifted, Liftable, Lifting}
use Rattle.lists.proofs.Moved.{length_moved}

pub length_held : (c : ℕ) (cells : List ℕ) → length (held_of c cells) ≡ c
unfolding held_of
length_held zero cells = refl
length_held (suc c) cells = ap suc (length_held c (drop 5 cells))

pub held_at : (c : ℕ) (cells : List ℕ) (m : ℕ) → m < c → get_or (held_of c cells) m 0 ≡ get_or cells (5 * m + 4) 0
unfolding held_of
held_at zero cells m h = absurd (omega arith)
held_at (suc c) cells zero h = refl
held_at (suc c) cells (suc m) h =
    let e : 5 + (5 * m + 4) ≡ 5 * suc m + 4 = omega arith in
    held_at c (drop 5 cells) m (omega arith) ∙ get_or-drop 5 cells (5 * m + 4) 0 ∙ ap (λ (j : ℕ). get_or cells j 0) e

-- slots laid over themselves stay
pub laid_still : (b : ℕ) (hs cells : List ℕ) → ((m : ℕ) → m < length hs → get_or hs m 0 ≤ b) → laid b hs cells cells ≡ cells
unfolding laid
laid_still b [] cells few = refl
laid_still b (h ∷ hs) cells few =
    let e : h + (b - h) ≡ b = omega (arith, few 0 (omega arith)) in
    rw (laid_still b hs (drop b cells) (λ m g. few (suc m) (omega arith)))
    (sym (append_assoc (take h cells) (take (b - h) (drop h cells)) (drop b cells))
    ∙ ap (λ (l : List ℕ). l ++ drop b cells) (sym (take-add h (b - h) cells) ∙ ap (λ (m : ℕ). take m cells) e)
    ∙ take-append-drop b cells)

-- one more
once_more : (n m b : ℕ) → n ≡ suc m → n * b ≡ m * b + b
once_more n m b e = rw e (omega arith)

-- one segment: its h used slots at F, put down at D; W is where the next one's were put down
one_lift : (b F D W h : ℕ) (cells L : List ℕ) → F ≤ D → W ≡ D + b → h ≤ b → W ≤ length cells →
    take D (take W cells ++ L) ++ (take h (drop F (take W cells ++ L)) ++ drop (D + h) (take W cells ++ L)) ≡ take D cells ++ (take h (drop F cells) ++ (take (b - h) (drop h (drop D cells)) ++ L))
one_lift b F D W h cells L a e m r =
    rw (
      take_front D W cells L (omega arith) r,
      drop_front F W (W - F) cells L (omega arith) r,
      take_front h (W - F) (drop F cells) L (omega arith) (omega (arith, length-drop F cells)),
      drop_front (D + h) W (b - h) cells L (omega arith) r,
      drop-drop h D cells,
    ) refl

module _ (xs tail : List ℕ) (b count by : ℕ) where
  abbrev hs : List ℕ
  hs = held_of count tail

  few_held : Liftable xs tail b count by → (m : ℕ) → m < length hs → get_or hs m 0 ≤ b
  few_held asked m h = let l : m < count = omega (arith, length_held count tail) in rw (held_at count tail m l) (asked.few m l)

  pub lift_still : Liftable xs tail b count by → by ≡ 0 → xs ≡ lifted b by (held_of count tail) xs
  unfolding lifted
  lift_still asked z = rw (z, zero-mul b) (sym (laid_still b hs xs (few_held asked)))

  pub lift_start : Liftable xs tail b count by → Lifting xs tail b count by xs count
  unfolding laid
  lift_start asked =
      let n : drop count hs ≡ [] = ap (λ (m : ℕ). drop m hs) (sym (length_held count tail)) ∙ drop-length hs in
      record {
        asked = asked;
        more = omega arith;
        same = refl;
        is = rw n (sym (take-append-drop ((by + count) * b) xs));
      }

  module _ (slots : List ℕ) (c : ℕ) (w : Lifting xs tail b count by slots c) where
    module _ (h : 0 < c) where
      used : ℕ
      used = get_or tail (5 * (c - 1) + 4) 0

      pub few_used : get_or tail (5 * (c - 1) + 4) 0 ≤ b
      few_used = w.asked.few (c - 1) (omega (arith, w.more))

      below_all : (by + c) * b ≤ (by + count) * b
      below_all = mul-le-mul_right b (omega (arith, w.more))

      room_here : (by + c) * b ≤ length xs
      room_here = omega (arith, w.asked.room, below_all)

      apart : (by + c) * b ≡ (c - 1) * b + b + by * b
      apart = omega (arith, once_more (by + c) (by + (c - 1)) b (omega arith))

      pub lift_index : Fits w64 ((c - 1) * b)
      lift_index = record { fits = omega (arith, w.asked.small, apart, below_all) }

      pub lift_asks : (m : ℕ) → m ≤ b → Movable slots ((c - 1) * b) m (by * b)
      lift_asks m l = record { fits = omega (arith, room_here, apart, w.same) }

      pub lift_turn : {s : List ℕ} → s ≡ moved ((c - 1) * b) (get_or tail (5 * (c - 1) + 4) 0) ((c - 1) * b + by * b) slots → Lifting xs tail b count by s (c - 1)
      unfolding moved laid
      lift_turn {s} is =
          let d : ℕ = c - 1 in
          let v : ℕ = get_or tail (5 * d + 4) 0 in
          let F : ℕ = d * b in
          let D : ℕ = (by + d) * b in
          let one : c ≡ suc d = omega arith in
          let e : F + by * b ≡ D = omega arith in
          let f : (by + c) * b ≡ D + b = once_more (by + c) (by + d) b (omega arith) in
          let g : c * b ≡ F + b = once_more c d b one in
          let l : d < length hs = omega (arith, length_held count tail, w.more) in
          let q : drop d hs ≡ v ∷ drop c hs = drop-cons hs d 0 l ∙ rw (held_at count tail d (omega (arith, w.more)), ← one) refl in
          let L : List ℕ = laid b (drop c hs) (drop (F + b) xs) (drop (D + b) xs) in
          let now_is : slots ≡ take (D + b) xs ++ L = w.is ∙ rw (f, g) refl in
          record {
            asked = w.asked;
            more = omega (arith, w.more);
            same = ap length is ∙ length_moved slots F v (F + by * b) (omega (arith, lift_asks v few_used)) (omega (arith, lift_asks v few_used)) ∙ w.same;
            is =
                is ∙ ap (λ (m : List ℕ). take (F + by * b) m ++ (take v (drop F m) ++ drop (F + by * b + v) m)) now_is
                ∙ rw (e, q, drop-drop b F xs, drop-drop b D xs)
                (one_lift b F D (D + b) v xs L (omega arith) refl few_used (omega (arith, room_here, f)));
          }

    pub lift_end : c ≤ 0 → slots ≡ lifted b by (held_of count tail) xs
    unfolding lifted
    lift_end h =
        let z : c ≡ 0 = omega arith in
        let e : by + 0 ≡ by = omega arith in
        w.is ∙ rw (z, e, zero-mul b) refl

pub ruleset lift_cases = (lift_still, lift_start, lift_index, few_used, lift_asks, lift_turn, lift_end, le_refl, zero-le)
