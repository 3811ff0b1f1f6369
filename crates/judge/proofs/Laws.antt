-- The cases of the tests, over what the callees ensure and what the code's own tests say.
-- Assumes nothing.
use Rattle.std.specs.Prelude.{Option, Some, None, Ok, Err}
use mathlib.Core.Path.{◌≡◌, refl, sym, ap, ◌∙◌}
use mathlib.Core.Bool.{Bool, true, false, not}
use mathlib.Core.List.{List, [], ◌∷◌}
use mathlib.Core.Logic.{⊎_elim}
use Prim.Native.Nat.{ℕ, suc, ◌+◌, ◌-◌, ◌*◌, ◌≤◌, ◌<◌}
use native.Mathlib.Nat.{sub-zero, add-zero}
use native.Mathlib.Omega.{arith}
use lib.Dec.{ltb, eqb}
use lib.ListN.{length, get_or, drop}
use borrow.Author.Tests.{lt-ltb, le-ltb, le-leb, lt-leb, eq-eqb, ne_eqb, not-true}
use Rattle.lists.specs.Tests.{pick, both, imp}
use Rattle.lists.proofs.Tests.{both_true}
use Rattle.terms.specs.Limits.{in_use_of}
use Rattle.terms.specs.declared.Entry.{Entry}
use Rattle.terms.specs.declared.Sizes.{Sizes}
use Rattle.terms.specs.declared.Refusal.TheVariants.{StoreWrong}
use Rattle.terms.specs.declared.Refusal.{Refusal}
use Rattle.table.specs.Store.{Store, store_of}
use Rattle.table.specs.Limits.{within_of}
use Rattle.table.specs.Entries.{Row, entry_of, entry_in, run_of, used_of}
use Rattle.table.specs.Damaged.{Sound, damaged_of}
use Rattle.table.proofs.Limits.{within_true, within_false, within_refusal, within_limits}
use Rattle.table.proofs.Damages.{sound_of, damaged_false}
use Rattle.scan.specs.Scan.{fails_of}
use Rattle.scan.proofs.Laws.{fail_here, fail_on, fail_end}
use Rattle.order.specs.declared.Cursor.{Cursor}
use Rattle.order.specs.Order.{pair_start, rest_of, next_of}
use Rattle.order.proofs.Rest.{FromRun, FromRest, Over, next_step, next_over, next_key, next_inside}
use Rattle.segment.specs.Lent.{Segment, Lent}
use Rattle.segment.proofs.Laws.{run_held, used_held, lent}
use Rattle.judge_key.specs.Key.{run_key_of, used_key_of, Placed}
use Rattle.judge.specs.Check.{ceiling_of, kept_of, entry_rules, rules_of, check_of, Going}

-- ---- starts, ceiling
pub starts_nought : (i b : ℕ) → i ≡ 0 → eqb b 0 ≡ imp (eqb i 0) (eqb b 0)
starts_nought i b h = simp (eq-eqb _ _ h)

pub starts_later : (i b : ℕ) → (i ≡ 0 → ⊥) → not (eqb i 0) ≡ imp (eqb i 0) (eqb b 0)
starts_later i b h = simp (ne_eqb _ _ h)

pub ruleset starts_cases = (starts_nought, starts_later)

pub ceiling_next : (s : ℕ) (t : List ℕ) (i : ℕ) → i + 1 < s → Some (get_or t (5 * (i + 1)) 0) ≡ ceiling_of s t i
ceiling_next s t i h = simp (lt-ltb _ _ h)

pub ceiling_last : (s : ℕ) (t : List ℕ) (i : ℕ) → s ≤ i + 1 → None ≡ ceiling_of s t i
ceiling_last s t i h = simp (le-ltb _ _ h)

pub ruleset ceiling_cases = (ceiling_next, ceiling_last)

-- ---- kept: a walk over the merged order

-- a head that is least goes first
module _ (e : ℕ) (x : Entry) (i : ℕ) (next before : Option ℕ) (p : ℕ) where
  pub kept_none : true ≡ kept_of e x i next before p [] []
  unfolding kept_of
  kept_none = refl

  pub kept_run : (k : ℕ) (ks ys : List ℕ) → ((y : ℕ) (zs : List ℕ) → ys ≡ y ∷ zs → k ≤ y) →
      kept_of e x i next before p (k ∷ ks) ys ≡ both (run_key_of e x next before k p) (kept_of e x i next (Some k) (p + 1) ks ys)
  unfolding kept_of
  kept_run k ks [] h = refl
  kept_run k ks (y ∷ ys) h = simp (le-leb k y (h y ys refl))

  pub kept_used : (y : ℕ) (ks ys : List ℕ) → ((k : ℕ) (zs : List ℕ) → ks ≡ k ∷ zs → y < k) →
      kept_of e x i next before p ks (y ∷ ys) ≡ both (used_key_of x i next before y) (kept_of e x i next (Some y) p ks ys)
  unfolding kept_of
  kept_used y [] ys h = refl
  kept_used y (k ∷ ks) ys h = simp (lt-leb k y (h k ks refl))

-- what a turn tests, and what it leaves
abbrev Turn : ℕ → Entry → ℕ → Option ℕ → List ℕ → List ℕ → Option ℕ → Cursor → ℕ → Cursor → Type 0
Turn e x i next run used before m k past =
    kept_of e x i next before (x.base.0 + m.i) (drop m.i run) (drop m.j used)
    ≡ both (pick (ltb m.i past.i) (run_key_of e x next before k (x.base.0 + m.i)) (used_key_of x i next before k))
    (kept_of e x i next (Some k) (x.base.0 + past.i) (drop past.i run) (drop past.j used))

module _ (e : ℕ) (x : Entry) (i : ℕ) (next : Option ℕ) (run used : List ℕ) (before : Option ℕ) (m : Cursor) (k : ℕ) (past : Cursor) (alone : m.took ≡ true) where
  turn_run : FromRun m run used 0 k past → Turn e x i next run used before m k past
  turn_run w =
      let q : x.base.0 + past.i ≡ x.base.0 + m.i + 1 = omega (arith, w.next) in
      let t : ltb m.i past.i ≡ true = lt-ltb m.i past.i (omega (arith, w.next)) in
      rw (w.heads, w.same_slots, q, t)
      (kept_run e x i next before (x.base.0 + m.i) k (drop past.i run) (drop m.j used) (rw alone at w.least))

  turn_rest : FromRest m run used 0 k past → Turn e x i next run used before m k past
  turn_rest w =
      let t : ltb m.i past.i ≡ false = le-ltb m.i past.i (omega (arith, w.same_run)) in
      let d : drop m.j used ≡ k ∷ drop past.j used = rw (alone, w.key_taken alone) at w.heads in
      rw (t, d, w.same_run)
      (kept_used e x i next before (x.base.0 + m.i) k (drop m.i run) (drop past.j used) w.least)

  turn : next_of m run used 0 ≡ Some (k, past) → Turn e x i next run used before m k past
  turn h = ⊎_elim turn_run turn_rest (next_step m run used 0 k past h)

  alone_next : next_of m run used 0 ≡ Some (k, past) → past.took ≡ true
  alone_next q = ⊎_elim (λ w. w.same_key ∙ alone) (λ w. w.key_taken alone) (next_step m run used 0 k past q)

pub kept_start : (e : ℕ) (x : Entry) (i : ℕ) (next : Option ℕ) (run used : List ℕ) {m : Cursor} → m ≡ pair_start → Going e x i next run used None m
kept_start e x i next run used q = rw q (record { alone = refl; inside = omega arith; so_far = rw (add-zero x.base.0) refl })

module _ (e : ℕ) (x : Entry) (i : ℕ) (next : Option ℕ) (run used : List ℕ) (before : Option ℕ) (m : Cursor) (so : Going e x i next run used before m) where
  pub kept_asks : Lent x run used → Placed x m.i
  kept_asks w = omega (arith, w, so.inside)

  module _ {n : Option (ℕ × Cursor)} (is : n ≡ next_of m run used 0) where
    pub kept_end : n ≡ None → true ≡ kept_of e x i next None x.base.0 run used
    kept_end q =
        let w : Over m run used 0 = next_over m run used 0 (sym is ∙ q) in
        let d : drop m.j used ≡ [] = rw so.alone at w.rest_over in
        sym (so.so_far ∙ rw (w.run_over, d) (sym (kept_none e x i next before (x.base.0 + m.i))))

    module _ (k : ℕ) (past : Cursor) (key : n ≡ Some (k, past)) where
      turned : Turn e x i next run used before m k past
      turned = turn e x i next run used before m k past so.alone (sym is ∙ key)

      pub kept_less : length (rest_of past run used 0) < length (rest_of m run used 0)
      kept_less = let l : length (rest_of m run used 0) ≡ suc (length (rest_of past run used 0)) = ap length (next_key m run used 0 k past (sym is ∙ key)) in omega arith

      module _ {r : Bool} (tested : r ≡ pick (ltb m.i past.i) (run_key_of e x next before k (x.base.0 + m.i)) (used_key_of x i next before k)) where
        pub kept_bad : r ≡ false → false ≡ kept_of e x i next None x.base.0 run used
        kept_bad q = sym (so.so_far ∙ turned ∙ rw (sym tested ∙ q) refl)

        pub kept_on : r ≡ true → Going e x i next run used (Some k) past
        kept_on q =
            record {
              alone = alone_next e x i next run used before m k past so.alone (sym is ∙ key);
              inside = next_inside m run used 0 k past (sym is ∙ key) so.inside;
              so_far = so.so_far ∙ turned ∙ rw (sym tested ∙ q) refl;
            }

pub ruleset kept_cases = (kept_start, kept_asks, kept_end, kept_less, kept_bad, kept_on)

-- ---- entry_ok
module _ (b n : ℕ) (keys : List ℕ) (x : Entry) (i : ℕ) {g : Bool} (test : g ≡ damaged_of b n x) where
  pub entry_damaged : g ≡ true → false ≡ entry_rules b n keys x i
  unfolding entry_rules
  entry_damaged h = rw (sym test ∙ h) refl

  module _ (fine : g ≡ false) where
    pub entry_base : n ≤ length keys → x.base.0 < length keys
    entry_base h = omega (arith, sound_of b n x test fine)

    module _ {u : Bool} (start : u ≡ imp (eqb i 0) (eqb x.base.0 0)) where
      pub entry_starts : u ≡ false → u ≡ entry_rules b n keys x i
      unfolding entry_rules
      entry_starts h = h ∙ rw (sym test ∙ fine, sym start ∙ h) refl

      pub entry_first : u ≡ true → eqb (get_or keys x.base.0 0) x.first.0 ≡ entry_rules b n keys x i
      unfolding entry_rules
      entry_first h = rw (sym test ∙ fine, sym start ∙ h) refl

pub ruleset entry_cases = (entry_damaged, entry_base, entry_starts, entry_first)

-- ---- segment_ok
pub entry_sound : (b n : ℕ) (keys : List ℕ) (x : Entry) (i : ℕ) {g : Bool} → g ≡ entry_rules b n keys x i → g ≡ true → Sound b n x
unfolding entry_rules
entry_sound b n keys x i test h = damaged_false b n x (not-true _ (both_true _ _ (sym test ∙ h)).0)

module _ (z : Sizes) (keys table buffers : List ℕ) (i : ℕ) where
  abbrev σ : Store
  σ = store_of z keys table buffers

  pub segment_row : Segment σ i → Row table z.s i
  segment_row w = omega arith

  module _ {x : Entry} (entry : x ≡ entry_of z.n z.s table i) {g : Bool} (test : g ≡ entry_rules z.b z.n keys x i) where
    pub segment_entry : g ≡ false → false ≡ rules_of σ i
    unfolding rules_of
    segment_entry h = let d : entry_rules z.b z.n keys (entry_in σ i) i ≡ false = cc in rw d refl

    pub segment_last : {e : ℕ} {c : Option ℕ} {run used : List ℕ} {r : Bool} → g ≡ true → c ≡ ceiling_of z.s table i → run ≡ run_of keys x →
        used ≡ used_of z.b buffers i x.held → e ≡ in_use_of z → r ≡ kept_of e x i c None x.base.0 run used → r ≡ rules_of σ i
    unfolding rules_of
    segment_last h ceiling p q o is =
        let d : entry_rules z.b z.n keys (entry_in σ i) i ≡ true = cc in
        rw d (rw (p, q, o, entry, ceiling) at is)

pub ruleset segment_cases = (segment_row, entry_sound, run_held, used_held, lent, segment_entry, segment_last)

-- ---- check
module _ (σ : Store) where
  pub check_limits : {r : Refusal} → Err r ≡ within_of σ → Err r ≡ check_of σ
  unfolding check_of
  check_limits h = simp (within_false σ h) (ap Err (within_refusal σ h))

  module _ (fine : Ok tt ≡ within_of σ) (i : ℕ) where
    pub check_asks : i < σ.s → Segment σ i
    check_asks h = record { limits = within_limits σ fine; inside = h }

    module _ (so_far : fails_of (rules_of σ) 0 (σ.s - 0) ≡ fails_of (rules_of σ) i (σ.s - i)) where
      pub check_bad : {r : Bool} → i < σ.s → r ≡ rules_of σ i → r ≡ false → Err (StoreWrong i) ≡ check_of σ
      unfolding check_of
      check_bad h p q = cc (sub-zero σ.s, within_true σ fine, fail_here (rules_of σ) 0 σ.s i so_far h p q)

      pub check_good : σ.s ≤ i → Ok tt ≡ check_of σ
      unfolding check_of
      check_good h = cc (sub-zero σ.s, fail_end (rules_of σ) 0 σ.s i so_far h)

pub ruleset check_cases = (check_limits, check_asks, check_bad, check_good, fail_on)
