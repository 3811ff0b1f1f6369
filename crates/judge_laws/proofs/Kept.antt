-- The walk over a segment's merged order tests what the rules say of its keys.
-- Assumes nothing.
use Rattle.std.specs.Prelude.{Option, Some, None}
use mathlib.Core.Path.{◌≡◌, refl, sym, ◌∙◌}
use mathlib.Core.Bool.{true}
use mathlib.Core.List.{List, [], ◌∷◌}
use mathlib.Core.Logic.{inl, inr, ⊎_elim}
use Prim.Native.Nat.{ℕ, zero, suc, ◌+◌, ◌≤◌, ◌<◌}
use native.Mathlib.Nat.{add-zero, not-suc-le-zero}
use native.Mathlib.Omega.{arith}
use lib.Dec.{leb}
use lib.ListN.{length, get_or}
use borrow.Author.Tests.{lt-ltb, ltb-true, leb-true, leb-false, le-leb}
use Rattle.lists.specs.Rising.{In}
use Rattle.lists.specs.Merge.{merge}
use Rattle.lists.proofs.Tests.{either, both_true, true_both, imp_true, true_imp}
use Rattle.lists.proofs.Lists.{nil_cons, same_head}
use Rattle.lists.proofs.Merging.{merge_nil, merge_first, merge_second}
use Rattle.terms.specs.Limits.{key_of}
use Rattle.terms.specs.Keys.{IsKey, RisingFrom}
use Rattle.terms.specs.declared.Entry.{Entry}
use Rattle.line.specs.Line.{window_of}
use Rattle.line.specs.Meaning.{Near, Within}
use Rattle.line.proofs.Meaning.{near_within, within_near}
use Rattle.order.specs.Bound.{floor_of, under_of}
use Rattle.judge_key.specs.Key.{between_of, run_key_of, used_key_of}
use Rattle.judge.specs.Check.{kept_of}
use Rattle.judge.proofs.Laws.{kept_none, kept_run, kept_used}

-- ---- the bounds

abbrev pub Under : Option ℕ → ℕ → Type 0
Under None k = Unit
Under (Some l) k = k < l

under_true : (b : Option ℕ) (k : ℕ) → under_of b k ≡ true → Under b k
under_true None k h = tt
under_true (Some l) k h = ltb-true k l h

true_under : (b : Option ℕ) (k : ℕ) → Under b k → under_of b k ≡ true
true_under None k h = refl
true_under (Some l) k h = lt-ltb k l h

-- ---- one key

record Between (next before : Option ℕ) (k : ℕ) : Type 0 where
  pub small : IsKey k
  pub above : floor_of before ≤ k
  pub under : Under next k

module _ (next before : Option ℕ) (k : ℕ) where
  between_true : between_of next before k ≡ true → Between next before k
  unfolding between_of
  between_true h =
      let t : _ = both_true _ _ h in
      let u : _ = both_true _ _ t.1 in
      record { small = ltb-true _ _ t.0; above = leb-true _ _ u.0; under = under_true next k u.1 }

  true_between : Between next before k → between_of next before k ≡ true
  unfolding between_of
  true_between w = true_both _ _ (lt-ltb _ _ w.small) (true_both _ _ (le-leb _ _ w.above) (true_under next k w.under))

  module _ (e : ℕ) (x : Entry) (p : ℕ) where
    run_true : run_key_of e x next before k p ≡ true → Between next before k × Near e x (key_of k) p
    unfolding run_key_of
    run_true h =
        let t : _ = both_true _ _ h in
        let u : _ = both_true _ _ t.1 in (
          between_true t.0,
          within_near e x (key_of k) p (record { from = leb-true _ _ u.0; below = ltb-true _ _ u.1 }),
        )

    true_run : Between next before k → Near e x (key_of k) p → run_key_of e x next before k p ≡ true
    unfolding run_key_of
    true_run b w =
        let i : Within (window_of e x (key_of k)) p = near_within e x (key_of k) p w in
        true_both _ _ (true_between b) (true_both _ _ (le-leb _ _ i.from) (lt-ltb _ _ i.below))

  module _ (x : Entry) (i : ℕ) where
    used_true : used_key_of x i next before k ≡ true → Between next before k × (0 < i → x.first.0 ≤ k)
    unfolding used_key_of
    used_true h = let t : _ = both_true _ _ h in (between_true t.0, λ l. leb-true _ _ (imp_true _ _ t.1 (lt-ltb _ _ l)))

    true_used : Between next before k → (0 < i → x.first.0 ≤ k) → used_key_of x i next before k ≡ true
    unfolding used_key_of
    true_used b w = true_both _ _ (true_between b) (true_imp _ _ (λ t. le-leb _ _ (w (ltb-true _ _ t))))

-- ---- a run and used slots

pub record Kept (e : ℕ) (x : Entry) (i : ℕ) (next before : Option ℕ) (p : ℕ) (ks ys : List ℕ) : Type 0 where
  pub rising : RisingFrom (floor_of before) (merge ks ys)
  pub run_under : (k : ℕ) → In k ks → Under next k
  pub used_under : (k : ℕ) → In k ys → Under next k
  pub not_before : 0 < i → (k : ℕ) → In k ys → x.first.0 ≤ k
  pub windows : (q : ℕ) → q < length ks → Near e x (key_of (get_or ks q 0)) (p + q)

module _ (e : ℕ) (x : Entry) (i : ℕ) (next : Option ℕ) where
  -- a key of the run more at the front
  module _ (before : Option ℕ) (p k : ℕ) (ks ys : List ℕ) (front : merge (k ∷ ks) ys ≡ k ∷ merge ks ys) where
    run_cons : Between next before k × Near e x (key_of k) p → Kept e x i next (Some k) (p + 1) ks ys → Kept e x i next before p (k ∷ ks) ys
    run_cons b w =
        record {
          rising = rw front (b.0.above, (b.0.small, w.rising));
          run_under = λ z j. ⊎_elim (λ q. rw (← q) b.0.under) (λ l. w.run_under z l) j;
          used_under = w.used_under;
          not_before = w.not_before;
          windows = windows;
        }
      where
        windows : (q : ℕ) → q < suc (length ks) → Near e x (key_of (get_or (k ∷ ks) q 0)) (p + q)
        windows zero h = rw (add-zero p) b.1
        windows (suc q) h = let s : p + suc q ≡ p + 1 + q = omega arith in rw s (w.windows q (omega arith))

    cons_run : Kept e x i next before p (k ∷ ks) ys → (Between next before k × Near e x (key_of k) p) × Kept e x i next (Some k) (p + 1) ks ys
    cons_run w =
        let u : RisingFrom (floor_of before) (k ∷ merge ks ys) = rw front at w.rising in
        let n : Near e x (key_of k) (p + 0) = w.windows 0 (omega arith) in (
          (record { above = u.0; small = u.1.0; under = w.run_under k (inl refl) }, rw (add-zero p) at n),
          record {
            rising = u.1.1;
            run_under = λ z j. w.run_under z (inr j);
            used_under = w.used_under;
            not_before = w.not_before;
            windows = λ q h. let s : p + 1 + q ≡ p + suc q = omega arith in rw s (w.windows (suc q) (omega arith));
          },
        )

  -- a used key more at the front
  module _ (before : Option ℕ) (p y : ℕ) (ks ys : List ℕ) (front : merge ks (y ∷ ys) ≡ y ∷ merge ks ys) where
    used_cons : Between next before y × (0 < i → x.first.0 ≤ y) → Kept e x i next (Some y) p ks ys → Kept e x i next before p ks (y ∷ ys)
    used_cons b w =
        record {
          rising = rw front (b.0.above, (b.0.small, w.rising));
          run_under = w.run_under;
          used_under = λ z j. ⊎_elim (λ q. rw (← q) b.0.under) (λ l. w.used_under z l) j;
          not_before = λ h z j. ⊎_elim (λ q. omega (arith, q, b.1 h)) (λ l. w.not_before h z l) j;
          windows = w.windows;
        }

    cons_used : Kept e x i next before p ks (y ∷ ys) → (Between next before y × (0 < i → x.first.0 ≤ y)) × Kept e x i next (Some y) p ks ys
    cons_used w =
        let u : RisingFrom (floor_of before) (y ∷ merge ks ys) = rw front at w.rising in (
          (record { above = u.0; small = u.1.0; under = w.used_under y (inl refl) }, λ h. w.not_before h y (inl refl)),
          record {
            rising = u.1.1;
            run_under = w.run_under;
            used_under = λ z j. w.used_under z (inr j);
            not_before = λ h z j. w.not_before h z (inr j);
            windows = w.windows;
          },
        )

  -- where the test passes each key, and the reverse
  module _ (before : Option ℕ) (p k : ℕ) (ks ys : List ℕ) (least : (y : ℕ) (zs : List ℕ) → ys ≡ y ∷ zs → k ≤ y) where
    run_step : (kept_of e x i next (Some k) (p + 1) ks ys ≡ true → Kept e x i next (Some k) (p + 1) ks ys) → kept_of e x i next before p (k ∷ ks) ys ≡ true → Kept e x i next before p (k ∷ ks) ys
    run_step rest h =
        let t : _ = both_true _ _ (sym (kept_run e x i next before p k ks ys least) ∙ h) in
        run_cons before p k ks ys (merge_first k ks ys least) (run_true next before k e x p t.0) (rest t.1)

    step_run : (Kept e x i next (Some k) (p + 1) ks ys → kept_of e x i next (Some k) (p + 1) ks ys ≡ true) → Kept e x i next before p (k ∷ ks) ys → kept_of e x i next before p (k ∷ ks) ys ≡ true
    step_run rest w =
        let t : _ = cons_run before p k ks ys (merge_first k ks ys least) w in
        kept_run e x i next before p k ks ys least ∙ true_both _ _ (true_run next before k e x p t.0.0 t.0.1) (rest t.1)

  module _ (before : Option ℕ) (p y : ℕ) (ks ys : List ℕ) (least : (k : ℕ) (zs : List ℕ) → ks ≡ k ∷ zs → y < k) where
    used_step : (kept_of e x i next (Some y) p ks ys ≡ true → Kept e x i next (Some y) p ks ys) → kept_of e x i next before p ks (y ∷ ys) ≡ true → Kept e x i next before p ks (y ∷ ys)
    used_step rest h =
        let t : _ = both_true _ _ (sym (kept_used e x i next before p y ks ys least) ∙ h) in
        used_cons before p y ks ys (merge_second y ks ys least) (used_true next before y x i t.0) (rest t.1)

    step_used : (Kept e x i next (Some y) p ks ys → kept_of e x i next (Some y) p ks ys ≡ true) → Kept e x i next before p ks (y ∷ ys) → kept_of e x i next before p ks (y ∷ ys) ≡ true
    step_used rest w =
        let t : _ = cons_used before p y ks ys (merge_second y ks ys least) w in
        kept_used e x i next before p y ks ys least ∙ true_both _ _ (true_used next before y x i t.0.0 t.0.1) (rest t.1)

  pub kept_true : (before : Option ℕ) (p : ℕ) (ks ys : List ℕ) → kept_of e x i next before p ks ys ≡ true → Kept e x i next before p ks ys
  kept_true before p [] [] h = record { rising = rw (merge_nil []) tt; run_under = λ k j. absurd j; used_under = λ k j. absurd j; not_before = λ z k j. absurd j; windows = λ q l. absurd (not-suc-le-zero l) }
  kept_true before p [] (y ∷ ys) h = used_step before p y [] ys (λ k zs q. nil_cons k zs q) (kept_true (Some y) p [] ys) h
  kept_true before p (k ∷ ks) [] h = run_step before p k ks [] (λ y zs q. nil_cons y zs q) (kept_true (Some k) (p + 1) ks []) h
  kept_true before p (k ∷ ks) (y ∷ ys) h =
      either (leb k y)
      (λ t. run_step before p k ks (y ∷ ys) (λ z zs q. omega (arith, leb-true k y t, same_head y z ys zs q)) (kept_true (Some k) (p + 1) ks (y ∷ ys)) h)
      (λ t. used_step before p y (k ∷ ks) ys (λ z zs q. omega (arith, leb-false k y t, same_head k z ks zs q)) (kept_true (Some y) p (k ∷ ks) ys) h)

  pub true_kept : (before : Option ℕ) (p : ℕ) (ks ys : List ℕ) → Kept e x i next before p ks ys → kept_of e x i next before p ks ys ≡ true
  true_kept before p [] [] w = sym (kept_none e x i next before p)
  true_kept before p [] (y ∷ ys) w = step_used before p y [] ys (λ k zs q. nil_cons k zs q) (true_kept (Some y) p [] ys) w
  true_kept before p (k ∷ ks) [] w = step_run before p k ks [] (λ y zs q. nil_cons y zs q) (true_kept (Some k) (p + 1) ks []) w
  true_kept before p (k ∷ ks) (y ∷ ys) w =
      either (leb k y)
      (λ t. step_run before p k ks (y ∷ ys) (λ z zs q. omega (arith, leb-true k y t, same_head y z ys zs q)) (true_kept (Some k) (p + 1) ks (y ∷ ys)) w)
      (λ t. step_used before p y (k ∷ ks) ys (λ z zs q. omega (arith, leb-false k y t, same_head k z ks zs q)) (true_kept (Some y) p (k ∷ ks) ys) w)
