-- The cut one segment at a time: from a position on it is one segment, and the cut from that segment's end.
-- Assumes nothing.
use mathlib.Core.Path.{◌≡◌, refl, sym, ap, ◌∙◌}
use mathlib.Core.Bool.{true, false}
use mathlib.Core.List.{List, [], ◌∷◌}
use Prim.Native.Nat.{ℕ, zero, suc, ◌+◌, ◌-◌, ◌≤◌, ◌<◌}
use native.Mathlib.Nat.{add-zero, zero-add}
use native.Mathlib.Omega.{arith}
use lib.ListN.{length, take, drop, length-drop}
use lib.Seq.{get_or-drop}
use borrow.Author.Tests.{lt-ltb, le-ltb}
use Rattle.lists.proofs.Tests.{either, same_test}
use Rattle.lists.proofs.Lists.{tail_is}
use Rattle.lists.proofs.Rising.{up_drop}
use Rattle.terms.specs.Limits.{key_limit}
use Rattle.cone.specs.Rule.{far, Missed, joins, segment_of, cut_from, cut}
use Rattle.cone.specs.Keys.{Cuttable}
use Rattle.cone.proofs.Rules.{joins_true, true_joins, cut_joined, cut_apart, cut_end, cut_start, cut_none}
use Rattle.cutting.specs.Ends.{size_from, size_of, cut_at, Startable}

module _ (e : ℕ) (ks : List ℕ) (i c r : ℕ) where
  pub size_joined : joins e ks i c ≡ true → size_from e ks i c (suc r) ≡ size_from e ks i (suc c) r
  unfolding size_from
  size_joined q = rw q

  pub size_apart : joins e ks i c ≡ false → size_from e ks i c (suc r) ≡ c
  unfolding size_from
  size_apart q = rw q

pub size_none : (e : ℕ) (ks : List ℕ) (i c : ℕ) → size_from e ks i c 0 ≡ c
unfolding size_from
size_none e ks i c = refl

module _ (e : ℕ) (ks : List ℕ) (i : ℕ) where
  pub at_some : i < length ks → cut_at e ks i ≡ cut_from e ks i 1 (length ks - (i + 1))
  unfolding cut_at
  at_some h = simp (lt-ltb _ _ h)

  pub at_none : length ks ≤ i → cut_at e ks i ≡ []
  unfolding cut_at
  at_none h = simp (le-ltb _ _ h)

pub at_start : (e : ℕ) (ks : List ℕ) → cut e ks ≡ cut_at e ks 0
at_start e [] = cut_none e ∙ sym (at_none e [] 0 (omega arith))
at_start e (k ∷ ks) = cut_start e (k ∷ ks) (length (k ∷ ks) - 1) (omega arith) ∙ sym (at_some e (k ∷ ks) 0 (omega arith))

-- ---- a segment has the keys that it has so far, and none past the list

pub size_inside : (e : ℕ) (ks : List ℕ) (r i c : ℕ) → i + c + r ≡ length ks → (c ≤ size_from e ks i c r) × (i + size_from e ks i c r ≤ length ks)
size_inside e ks zero i c q = rw (size_none e ks i c) (omega arith, omega arith)
size_inside e ks (suc r) i c q =
    either (joins e ks i c)
    (λ t.
    let h : (suc c ≤ size_from e ks i (suc c) r) × (i + size_from e ks i (suc c) r ≤ length ks) = size_inside e ks r i (suc c) (omega arith) in
    rw (size_joined e ks i c r t) (omega (arith, h.0), h.1))
    (λ t. rw (size_apart e ks i c r t) (omega arith, omega arith))

-- ---- the cut from an open segment is that segment, and the cut from its end

cut_sizes :
    (e : ℕ) (ks : List ℕ) (r i c : ℕ) → i + c + r ≡ length ks
    → cut_from e ks i c r ≡ segment_of ks i (size_from e ks i c r) ∷ cut_at e ks (i + size_from e ks i c r)
cut_sizes e ks zero i c q = rw (size_none e ks i c, at_none e ks (i + c) (omega arith)) (cut_end e ks i c)
cut_sizes e ks (suc r) i c q =
    either (joins e ks i c)
    (λ t. rw (size_joined e ks i c r t) (cut_joined e ks i c r t ∙ cut_sizes e ks r i (suc c) (omega arith)))
    (λ t.
    let m : length ks - (i + c + 1) ≡ r = omega arith in
    rw (size_apart e ks i c r t, at_some e ks (i + c) (omega arith), m) (cut_apart e ks i c r t))

module _ (e : ℕ) (ks : List ℕ) (i : ℕ) (inside : i < length ks) where
  pub at_next : cut_at e ks i ≡ segment_of ks i (size_of e ks i) ∷ cut_at e ks (i + size_of e ks i)
  unfolding size_of
  at_next = at_some e ks i inside ∙ cut_sizes e ks (length ks - (i + 1)) i 1 (omega arith)

  pub size_some : 0 < size_of e ks i
  unfolding size_of
  size_some = (size_inside e ks (length ks - (i + 1)) i 1 (omega arith)).0

  pub size_most : i + size_of e ks i ≤ length ks
  unfolding size_of
  size_most = (size_inside e ks (length ks - (i + 1)) i 1 (omega arith)).1

-- ---- the segment that starts at i is the first of the keys from i on: what is lent is a part of the keys

module _ (e : ℕ) (ks : List ℕ) (i : ℕ) where
  far_drop : (m : ℕ) → far (drop i ks) 0 m ≡ far ks i m
  far_drop m = simp (get_or-drop, zero-add, add-zero)

  missed_as : (d d' c dm dm' m : ℕ) → d ≡ d' → dm ≡ dm' → Missed e d c dm m → Missed e d' c dm' m
  missed_as d d' c dm dm' m p q w = rw (← p, ← q) w

  joins_drop : (c : ℕ) → joins e (drop i ks) 0 c ≡ joins e ks i c
  joins_drop c =
      same_test (joins e (drop i ks) 0 c) (joins e ks i c)
      (λ t. true_joins e ks i c (λ m h. missed_as _ _ c _ _ m (far_drop c) (far_drop m) (joins_true e (drop i ks) 0 c t m h)))
      (λ t. true_joins e (drop i ks) 0 c (λ m h. missed_as _ _ c _ _ m (sym (far_drop c)) (sym (far_drop m)) (joins_true e ks i c t m h)))

  size_drop : (r c : ℕ) → size_from e (drop i ks) 0 c r ≡ size_from e ks i c r
  size_drop zero c = size_none e (drop i ks) 0 c ∙ sym (size_none e ks i c)
  size_drop (suc r) c =
      either (joins e ks i c)
      (λ t. size_joined e (drop i ks) 0 c r (joins_drop c ∙ t) ∙ size_drop r (suc c) ∙ sym (size_joined e ks i c r t))
      (λ t. size_apart e (drop i ks) 0 c r (joins_drop c ∙ t) ∙ sym (size_apart e ks i c r t))

  -- as the part `&keys[i..]` shows it
  pub size_lent : size_of e (take (length ks - i) (drop i ks)) 0 ≡ size_of e ks i
  unfolding size_of
  size_lent =
      let l : length (drop i ks) ≡ length ks - i = length-drop i ks in
      let m : length (drop i ks) - (0 + 1) ≡ length ks - (i + 1) = omega (arith, l) in
      rw (tail_is ks i) (ap (λ (r : ℕ). size_from e (drop i ks) 0 1 r) m ∙ size_drop (length ks - (i + 1)) 1)

  pub lent_counts : length ks - i ≡ length (take (length ks - i) (drop i ks))
  lent_counts = rw (tail_is ks i) (sym (length-drop i ks))

  pub lent_startable : Cuttable e ks → i < length ks → Startable e (take (length ks - i) (drop i ks))
  lent_startable keys more =
      let l : length (drop i ks) ≡ length ks - i = length-drop i ks in
      rw (tail_is ks i)
      (record {
        keys = record { bound = keys.bound; few = omega (arith, keys.few, l); rising = up_drop 0 key_limit ks i keys.rising };
        some = omega (arith, l);
      })
