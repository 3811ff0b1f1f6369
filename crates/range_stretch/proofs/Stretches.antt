-- Laws of a stretch, of the last key of a list, and of a walk.
-- Assumes nothing.
use Rattle.std.specs.Prelude.{Option, Some, None}
use mathlib.Core.Path.{◌≡◌, refl, sym, ap, ◌∙◌}
use mathlib.Core.Bool.{true, false, not}
use mathlib.Core.List.{List, [], ◌∷◌, ◌++◌, append-nil, append_assoc}
use Prim.Native.Nat.{ℕ, zero, suc, ◌+◌, ◌-◌, ◌*◌, ◌≤◌, ◌<◌}
use native.Mathlib.Nat.{add-zero}
use native.Mathlib.Omega.{arith}
use lib.ListN.{length, drop, length-take}
use Rattle.lists.specs.Tests.{both}
use Rattle.lists.specs.Rising.{up_of}
use Rattle.lists.specs.Between.{between}
use Rattle.lists.proofs.Tests.{either, clash, both_true}
use Rattle.lists.proofs.Merging.{length_merge}
use Rattle.lists.proofs.Between.{between_append}
use Rattle.lists.proofs.Listed.{length_between_cons}
use Rattle.terms.specs.Limits.{cut_most}
use Rattle.terms.specs.Keys.{rising_from, RisingFrom}
use Rattle.terms.proofs.Keys.{from_true}
use Rattle.table.specs.Store.{Store}
use Rattle.table.specs.Limits.{Limits}
use Rattle.table.specs.Entries.{entry_in, run_in, used_in}
use Rattle.table.specs.Damaged.{Sound, damaged_of}
use Rattle.table.specs.Reads.{merged_in, stretch_of}
use Rattle.table.proofs.Damages.{damaged_false}
use Rattle.order.specs.Bound.{floor_of, last_of}
use Rattle.choose.specs.Stretch.{keys_in}
use Rattle.range_stretch.specs.Stretch.{before_in, fine_of, follows_of, walked_of, seen_of}

-- ---- the key before

pub last_append : (before : Option ℕ) (xs ys : List ℕ) → last_of before (xs ++ ys) ≡ last_of (last_of before xs) ys
unfolding last_of
last_append before [] ys = refl
last_append before (x ∷ xs) ys = last_append (Some x) xs ys

-- ---- one segment more at the end of a stretch, and one less at its start

module _ (σ : Store) where
  pub stretch_none : (a c : ℕ) → c ≡ 0 → stretch_of σ a c ≡ []
  unfolding stretch_of
  stretch_none a c h = rw h refl

  stretch_more : (a c : ℕ) → stretch_of σ a (suc c) ≡ stretch_of σ a c ++ merged_in σ (a + c)
  unfolding stretch_of
  stretch_more a zero = rw (add-zero a) (append-nil (merged_in σ a))
  stretch_more a (suc c) =
      let e : suc a + c ≡ a + suc c = omega arith in
      ap (λ (l : List ℕ). merged_in σ a ++ l) (stretch_more (suc a) c ∙ ap (λ (i : ℕ). stretch_of σ (suc a) c ++ merged_in σ i) e)
      ∙ sym (append_assoc (merged_in σ a) (stretch_of σ (suc a) c) (merged_in σ (a + suc c)))

  pub stretch_next : (a i m : ℕ) → a ≤ i → m ≡ suc (i - a) → stretch_of σ a m ≡ stretch_of σ a (i - a) ++ merged_in σ i
  stretch_next a i m h e =
      let d : a + (i - a) ≡ i = omega arith in
      ap (stretch_of σ a) e ∙ stretch_more a (i - a) ∙ ap (λ (j : ℕ). stretch_of σ a (i - a) ++ merged_in σ j) d

  stretch_first : (i c d : ℕ) → c ≡ suc d → stretch_of σ i c ≡ merged_in σ i ++ stretch_of σ (suc i) d
  unfolding stretch_of
  stretch_first i c d h = rw h refl

  module _ (low high : ℕ) where
    -- the keys from low to high of one segment more
    pub keys_more : (a i : ℕ) → a ≤ i → keys_in σ low high a (i + 1) ≡ keys_in σ low high a i ++ between low high (merged_in σ i)
    keys_more a i h =
        ap (between low high) (stretch_next a i (i + 1 - a) h (omega arith)) ∙ between_append low high (stretch_of σ a (i - a)) (merged_in σ i)

    pub keys_none : (i to : ℕ) → to ≤ i → keys_in σ low high i to ≡ []
    unfolding between
    keys_none i to h = ap (between low high) (stretch_none i (to - i) (omega arith))

    pub keys_first : (i to : ℕ) → i < to → keys_in σ low high i to ≡ between low high (merged_in σ i) ++ keys_in σ low high (i + 1) to
    keys_first i to h =
        let e : suc i ≡ i + 1 = omega arith in
        ap (between low high) (stretch_first i (to - i) (to - (i + 1)) (omega arith) ∙ ap (λ (j : ℕ). merged_in σ i ++ stretch_of σ j (to - (i + 1))) e)
        ∙ between_append low high (merged_in σ i) (stretch_of σ (i + 1) (to - (i + 1)))

  -- the key before the next segment
  pub before_next : (a i : ℕ) → a ≤ i → last_of (before_in σ a i) (merged_in σ i) ≡ before_in σ a (i + 1)
  before_next a i h = sym (ap (last_of None) (stretch_next a i (i + 1 - a) h (omega arith)) ∙ last_append None (stretch_of σ a (i - a)) (merged_in σ i))

  pub before_first : (a : ℕ) → None ≡ before_in σ a a
  unfolding last_of
  before_first a = sym (ap (last_of None) (stretch_none a (a - a) (omega arith)))

  -- a segment that is not damaged has few keys
  pub merged_few : (i : ℕ) → Limits σ → Sound σ.b σ.n (entry_in σ i) → length (merged_in σ i) ≤ cut_most
  merged_few i limits sound =
      let p : _ = length-take ((entry_in σ i).end.0 - (entry_in σ i).base.0) (drop (entry_in σ i).base.0 σ.keys) in
      let q : _ = length-take (entry_in σ i).held (drop (i * σ.b) σ.buffers) in
      omega (arith, length_merge (run_in σ i) (used_in σ i), p, q, limits, sound)

-- ---- a walk, by its next key

module _ (low high : ℕ) (before : Option ℕ) (seen : ℕ) where
  pub walked_none : walked_of low high before seen [] ≡ Some (before, seen)
  unfolding walked_of up_of last_of between
  walked_none = ap (λ (c : ℕ). Some (before, c)) (add-zero seen)

  module _ (k : ℕ) (ks : List ℕ) where
    pub walked_falls : follows_of before k ≡ false → walked_of low high before seen (k ∷ ks) ≡ None
    unfolding walked_of up_of
    walked_falls h = rw h refl

    pub walked_on : follows_of before k ≡ true → walked_of low high before seen (k ∷ ks) ≡ walked_of low high (Some k) (seen + length (between low high (k ∷ []))) ks
    unfolding walked_of up_of last_of
    walked_on h =
        let c : seen + length (between low high (k ∷ ks)) ≡ seen + length (between low high (k ∷ [])) + length (between low high ks)
        = omega (arith, length_between_cons low high k ks) in
        rw (h, c) refl

-- ---- what the sight of a segment says

pub record Passed (σ : Store) (low high i : ℕ) (before : Option ℕ) (seen : ℕ) (last : Option ℕ) (more : ℕ) : Type 0 where
  pub sound : damaged_of σ.b σ.n (entry_in σ i) ≡ false
  pub rises : rising_from (floor_of before) (merged_in σ i) ≡ true
  pub last_is : last ≡ last_of before (merged_in σ i)
  pub more_is : more ≡ seen + length (between low high (merged_in σ i))

apart : {C : Type 0} {last : Option ℕ} {more : ℕ} → ◌≡◌ {A = Option (Option ℕ × ℕ)} None (Some (last, more)) → C
apart e = absurd (let z : ◌≡◌ {A = ℕ} 0 1 = cc in omega arith)

rose_last : {l l' : Option ℕ} {m m' : ℕ} → ◌≡◌ {A = Option (Option ℕ × ℕ)} (Some (l, m)) (Some (l', m')) → l ≡ l'
rose_last {l} {l'} {m} {m'} e = let p : ◌≡◌ {A = Option ℕ × ℕ} (l, m) (l', m') = cc in ap (λ (q : Option ℕ × ℕ). q.0) p

rose_seen : {l l' : Option ℕ} {m m' : ℕ} → ◌≡◌ {A = Option (Option ℕ × ℕ)} (Some (l, m)) (Some (l', m')) → m ≡ m'
rose_seen {l} {l'} {m} {m'} e = let p : ◌≡◌ {A = Option ℕ × ℕ} (l, m) (l', m') = cc in ap (λ (q : Option ℕ × ℕ). q.1) p

module _ (σ : Store) (low high i : ℕ) (before : Option ℕ) (seen : ℕ) where
  pub seen_rose : (last : Option ℕ) (more : ℕ) → seen_of σ low high i before seen ≡ Some (last, more) → Passed σ low high i before seen last more
  unfolding seen_of walked_of
  seen_rose last more h =
      either (damaged_of σ.b σ.n (entry_in σ i)) (λ t. apart (rw t at h))
      (λ t. either (rising_from (floor_of before) (merged_in σ i))
      (λ u. let e : ◌≡◌ {A = Option (Option ℕ × ℕ)} (Some (last_of before (merged_in σ i), seen + length (between low high (merged_in σ i)))) (Some (last, more)) = rw (t, u) at h in
      record { sound = t; rises = u; last_is = sym (rose_last e); more_is = sym (rose_seen e) })
      (λ u. apart (rw (t, u) at h)))

  pub seen_fell : seen_of σ low high i before seen ≡ None → both (not (damaged_of σ.b σ.n (entry_in σ i))) (rising_from (floor_of before) (merged_in σ i)) ≡ false
  unfolding seen_of walked_of
  seen_fell h =
      either (damaged_of σ.b σ.n (entry_in σ i)) (λ t. rw t refl)
      (λ t. either (rising_from (floor_of before) (merged_in σ i)) (λ u. apart (sym (rw (t, u) at h))) (λ u. rw (t, u) refl))

-- a segment of the stretch that is fine is not damaged
pub fine_sound : (σ : Store) (a i : ℕ) → fine_of σ a i ≡ true → Sound σ.b σ.n (entry_in σ i)
unfolding fine_of
fine_sound σ a i h =
    either (damaged_of σ.b σ.n (entry_in σ i)) (λ t. clash (sym (rw t at h))) (λ t. damaged_false σ.b σ.n (entry_in σ i) t)

-- and its merged keys rise from the key before them on
pub fine_up : (σ : Store) (a i : ℕ) → fine_of σ a i ≡ true → RisingFrom (floor_of (before_in σ a i)) (merged_in σ i)
unfolding fine_of
fine_up σ a i h =
    from_true (floor_of (before_in σ a i)) (merged_in σ i)
    (both_true (not (damaged_of σ.b σ.n (entry_in σ i))) (rising_from (floor_of (before_in σ a i)) (merged_in σ i)) h).1
