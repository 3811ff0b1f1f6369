-- Demand 1b: range's answer means what 01's table says, and only that answer does.
-- Assumes nothing.
use Rattle.std.specs.Prelude.{Option, Some, None, Result, Ok, Err}
use Rattle.terms.specs.declared.Refusal.{Refusal}
use mathlib.Core.Path.{◌≡◌, refl, sym, ap, ◌∙◌}
use mathlib.Core.Bool.{false}
use mathlib.Core.List.{List, ◌++◌}
use mathlib.Core.Logic.{◌⊎◌, inl, inr, ⊎_elim}
use Prim.Native.Nat.{ℕ, suc, ◌+◌, ◌-◌, ◌≤◌}
use native.Mathlib.Omega.{arith}
use lib.Dec.{leb}
use lib.ListN.{length, drop}
use borrow.Author.Tests.{leb-true, leb-false, le-leb, lt-leb}
use Rattle.lists.proofs.Over.{over_start}
use Rattle.lists.proofs.Tests.{either, clash, is_true, is_false}
use Rattle.terms.specs.Keys.{is_key, NoKey}
use Rattle.terms.specs.declared.Refusal.TheVariants.{LargeKey, OutRoom, StoreWrong}
use Rattle.terms.proofs.Keys.{key_true, key_false, true_key, false_key}
use Rattle.table.specs.Store.{Store}
use Rattle.table.specs.Limits.{Limits, limited_of}
use Rattle.choose.specs.Chosen.{chosen_of}
use Rattle.choose.specs.Stretch.{keys_from}
use Rattle.table.proofs.Limits.{limited_true, true_limited}
use Rattle.choose.proofs.Chosen.{chosen_is, one_choice}
use Rattle.scan.specs.Scan.{fails_of}
use Rattle.scan.specs.Meaning.{Scanned}
use Rattle.scan.proofs.Meaning.{fails_scanned, one_answer}
use Rattle.theory_stretch.proofs.Stretch.{stretch_forward}
use Rattle.range_stretch.specs.Stretch.{fine_of, counted_by, judged_of}
use Rattle.range.specs.Range.{listed_by, stretched_of, chosen_range_of, range_of, out_by}
use Rattle.range.proofs.Laws.{range_limits, range_low, range_high, range_backwards}
use Rattle.range_laws.specs.Answers.{Asked, Fine, Right, list_of, Held, Long, Wrong, Answers, listed, refused_1, refused_2, refused_4, refused_9, refused_8}
use Rattle.range_laws.proofs.Follows.{fine_true, true_fine}

-- ---- a stretch from a to z, once it is asked for
module _ (σ : Store) (low high room a z : ℕ) (asked : Asked σ low high a z) where
  -- "the stretch never runs backwards", on any table
  pub runs_on : a ≤ z
  runs_on = stretch_forward σ low high a z asked.forwards asked.from asked.to

  abbrev Fails : ℕ → Type 0
  Fails i = fine_of σ a i ≡ false

  abbrev lowest : Option ℕ
  lowest = fails_of (fine_of σ a) a (suc z - a)

  abbrev number : ℕ
  number = length (list_of σ low high a z)

  passes : (i : ℕ) → a ≤ i → (Fails i → ⊥) → Fine σ a i
  passes i h f = fine_true σ a i h (is_true (fine_of σ a i) f)

  fails : (i : ℕ) → a ≤ i → (Fine σ a i → ⊥) → Fails i
  fails i h f = is_false (fine_of σ a i) (λ t. f (fine_true σ a i h t))

  fine_not : (i : ℕ) → a ≤ i → Fine σ a i → Fails i → ⊥
  fine_not i h w f = clash (sym (true_fine σ a i h w) ∙ f)

  scanned_all : Scanned Fails a (suc z) lowest
  scanned_all = let e : a + (suc z - a) ≡ suc z = omega (arith, runs_on) in rw e at (fails_scanned (fine_of σ a) a (suc z - a))

  abbrev answer_of : Option ℕ → Result ℕ Refusal
  answer_of f = listed_by room (counted_by number f)

  right_of : Scanned Fails a (suc z) None → Right σ low high a z
  right_of w = record { asked = asked; fine = λ i h g. passes i h (w i h (omega arith)) }

  found_answers : (f : Option ℕ) → Scanned Fails a (suc z) f → Answers σ low high room (answer_of f)
  found_answers (Some i) w =
      refused_9
      (record {
        first = a;
        last = z;
        asked = asked;
        from = w.from;
        to = omega (arith, w.below);
        wrong = λ f. fine_not i w.from f w.holds;
        before = λ j h g. passes j h (w.first j h g);
      })
  found_answers None w =
      either (leb number room)
      (λ t. rw t (listed (record { first = a; last = z; right = right_of w; number = refl; fits = leb-true number room t })))
      (λ t. rw t (refused_8 (record { first = a; last = z; right = right_of w; longer = leb-false number room t })))

  chosen_low : chosen_of σ.table σ.s low ≡ a
  chosen_low = one_choice σ.table low σ.s _ a (chosen_is σ.table low σ.s asked.limits.s_least) asked.from

  chosen_high : chosen_of σ.table σ.s high ≡ z
  chosen_high = one_choice σ.table high σ.s _ z (chosen_is σ.table high σ.s asked.limits.s_least) asked.to

  -- an accepted call writes the keys of this stretch
  pub keys_are : keys_from σ low high ≡ list_of σ low high a z
  keys_are = rw (chosen_low, chosen_high) refl

  range_is : range_of σ low high room ≡ answer_of lowest
  unfolding range_of chosen_range_of stretched_of judged_of
  range_is =
      rw (
        true_limited σ asked.limits,
        true_key low asked.low_key,
        true_key high asked.high_key,
        le-leb low high asked.forwards,
        chosen_low,
        chosen_high,
      )
      refl

  found_is : (f : Option ℕ) → Scanned Fails a (suc z) f → answer_of f ≡ range_of σ low high room
  found_is f w = ap answer_of (one_answer Fails a (suc z) f lowest w scanned_all) ∙ sym range_is

-- Range's answer means what it should.
pub answers : (σ : Store) (low high room : ℕ) → Answers σ low high room (range_of σ low high room)
answers σ low high room =
    either (limited_of σ)
    (λ t.
    let l : Limits σ = limited_true σ t in
    either (is_key low)
    (λ u. either (is_key high)
    (λ v. either (leb low high)
    (λ w.
    let q : Asked σ low high (chosen_of σ.table σ.s low) (chosen_of σ.table σ.s high) =
    record {
      limits = l;
      low_key = key_true low u;
      high_key = key_true high v;
      forwards = leb-true low high w;
      from = chosen_is σ.table low σ.s l.s_least;
      to = chosen_is σ.table high σ.s l.s_least;
    } in
    rw (range_is σ low high room _ _ q) (found_answers σ low high room _ _ q (lowest σ low high room _ _ q) (scanned_all σ low high room _ _ q)))
    (λ w. rw (← range_backwards σ low high room refl t refl u refl v (leb-false low high w)) (refused_4 l (key_true low u) (key_true high v) (leb-false low high w))))
    (λ v. rw (← range_high σ low high room refl t refl u refl v) (refused_2 l (inr (key_false high v)))))
    (λ u. rw (← range_low σ low high room refl t refl u) (refused_2 l (inl (key_false low u)))))
    (λ t. rw (← range_limits σ low high room refl t) (refused_1 (λ l. clash (sym (true_limited σ l) ∙ t))))

-- ---- and nothing else does

large : (σ : Store) (low high room : ℕ) → Limits σ → (NoKey low) ⊎ (NoKey high) → Err (LargeKey (record { 0 = 0 })) ≡ range_of σ low high room
large σ low high room l h =
    either (is_key low)
    (λ u. range_high σ low high room refl (true_limited σ l) refl u refl
    (false_key high (⊎_elim (λ p. absurd (omega (arith, p, key_true low u))) (λ p. p) h)))
    (λ u. range_low σ low high room refl (true_limited σ l) refl u)

module _ (σ : Store) (low high room : ℕ) where
  held_is : {m : ℕ} → Held σ low high room m → Ok m ≡ range_of σ low high room
  held_is {m} w =
      let q : Asked σ low high w.first w.last = w.right.asked in
      let e : Ok m ≡ listed_by room (counted_by (length (list_of σ low high w.first w.last)) None)
      = rw (le-leb (length (list_of σ low high w.first w.last)) room (omega (arith, w.number, w.fits))) (ap Ok w.number) in
      e ∙ found_is σ low high room w.first w.last q None
      (λ i h g f. fine_not σ low high room w.first w.last q i h (w.right.fine i h (omega arith)) f)

  long_is : Long σ low high room → Err OutRoom ≡ range_of σ low high room
  long_is w =
      let q : Asked σ low high w.first w.last = w.right.asked in
      let e : Err OutRoom ≡ listed_by room (counted_by (length (list_of σ low high w.first w.last)) None)
      = rw (lt-leb (length (list_of σ low high w.first w.last)) room w.longer) refl in
      e ∙ found_is σ low high room w.first w.last q None
      (λ i h g f. fine_not σ low high room w.first w.last q i h (w.right.fine i h (omega arith)) f)

  wrong_is : {i : ℕ} → Wrong σ low high i → Err (StoreWrong i) ≡ range_of σ low high room
  wrong_is {i} w =
      found_is σ low high room w.first w.last w.asked (Some i)
      (record {
        from = w.from;
        below = omega (arith, w.to);
        holds = fails σ low high room w.first w.last w.asked i w.from w.wrong;
        first = λ j h g f. fine_not σ low high room w.first w.last w.asked j h (w.before j h g) f;
      })

-- An answer that means what it should is range's.
pub only : (σ : Store) (low high room : ℕ) (r : Result ℕ Refusal) → Answers σ low high room r → r ≡ range_of σ low high room
only σ low high room r (listed w) = held_is σ low high room w
only σ low high room r (refused_1 w) = either (limited_of σ) (λ t. absurd (w (limited_true σ t))) (λ t. range_limits σ low high room refl t)
only σ low high room r (refused_2 l h) = large σ low high room l h
only σ low high room r (refused_4 l p q h) =
    range_backwards σ low high room refl (true_limited σ l) refl (true_key low p) refl (true_key high q) h
only σ low high room r (refused_9 w) = wrong_is σ low high room w
only σ low high room r (refused_8 w) = long_is σ low high room w

-- ---- and so, for an accepted call

listed_says : (σ : Store) (low high room count : ℕ) {r : Result ℕ Refusal} → Answers σ low high room r → r ≡ Ok count → Held σ low high room count
listed_says σ low high room count (listed {m} w) e = let q : m ≡ count = cc in rw q at w
listed_says σ low high room count (refused_1 w) e = absurd (let z : ◌≡◌ {A = ℕ} 0 1 = cc in omega arith)
listed_says σ low high room count (refused_2 l h) e = absurd (let z : ◌≡◌ {A = ℕ} 0 1 = cc in omega arith)
listed_says σ low high room count (refused_4 l p q h) e = absurd (let z : ◌≡◌ {A = ℕ} 0 1 = cc in omega arith)
listed_says σ low high room count (refused_9 w) e = absurd (let z : ◌≡◌ {A = ℕ} 0 1 = cc in omega arith)
listed_says σ low high room count (refused_8 w) e = absurd (let z : ◌≡◌ {A = ℕ} 0 1 = cc in omega arith)

-- m keys are listed exactly when no segment of the stretch is wrong, its keys from low to high have room, and m is their number
pub listed_held : (σ : Store) (low high room m : ℕ) → range_of σ low high room ≡ Ok m → Held σ low high room m
listed_held σ low high room m e = listed_says σ low high room m (answers σ low high room) e

pub held_listed : (σ : Store) (low high room m : ℕ) → Held σ low high room m → range_of σ low high room ≡ Ok m
held_listed σ low high room m w = sym (held_is σ low high room w)

-- "The rest of the out slice is unchanged": of an accepted call the out slice starts with the keys from low to high of the stretch, and goes on as it was
pub out_is : (σ : Store) (low high m : ℕ) (out : List ℕ) (w : Held σ low high (length out) m) →
    out_by (keys_from σ low high) (Ok m) out ≡ list_of σ low high w.first w.last ++ drop m out
out_is σ low high m out w =
    rw (keys_are σ low high (length out) w.first w.last w.right.asked, w.number)
    (over_start out (list_of σ low high w.first w.last) (omega (arith, w.number, w.fits)))

-- ---- and for the refusals that hang on the stretch

wrong_says : (σ : Store) (low high room place : ℕ) {r : Result ℕ Refusal} → Answers σ low high room r → r ≡ Err (StoreWrong place) → Wrong σ low high place
wrong_says σ low high room place (listed w) e = absurd (let z : ◌≡◌ {A = ℕ} 0 1 = cc in omega arith)
wrong_says σ low high room place (refused_1 w) e = absurd (let z : ◌≡◌ {A = ℕ} 0 1 = cc in omega arith)
wrong_says σ low high room place (refused_2 l h) e = absurd (let z : ◌≡◌ {A = ℕ} 0 1 = cc in omega arith)
wrong_says σ low high room place (refused_4 l p q h) e = absurd (let z : ◌≡◌ {A = ℕ} 0 1 = cc in omega arith)
wrong_says σ low high room place (refused_9 {i} w) e = let q : i ≡ place = cc in rw q at w
wrong_says σ low high room place (refused_8 w) e = absurd (let z : ◌≡◌ {A = ℕ} 0 1 = cc in omega arith)

-- 9 is given at i exactly when none of 1, 2 and 4 is due and i is the lowest segment of the stretch that is wrong
pub nine_wrong : (σ : Store) (low high room i : ℕ) → range_of σ low high room ≡ Err (StoreWrong i) → Wrong σ low high i
nine_wrong σ low high room i e = wrong_says σ low high room i (answers σ low high room) e

pub wrong_nine : (σ : Store) (low high room i : ℕ) → Wrong σ low high i → range_of σ low high room ≡ Err (StoreWrong i)
wrong_nine σ low high room i w = sym (wrong_is σ low high room w)

long_says : (σ : Store) (low high room : ℕ) {r : Result ℕ Refusal} → Answers σ low high room r → r ≡ Err OutRoom → Long σ low high room
long_says σ low high room (listed w) e = absurd (let z : ◌≡◌ {A = ℕ} 0 1 = cc in omega arith)
long_says σ low high room (refused_1 w) e = absurd (let z : ◌≡◌ {A = ℕ} 0 1 = cc in omega arith)
long_says σ low high room (refused_2 l h) e = absurd (let z : ◌≡◌ {A = ℕ} 0 1 = cc in omega arith)
long_says σ low high room (refused_4 l p q h) e = absurd (let z : ◌≡◌ {A = ℕ} 0 1 = cc in omega arith)
long_says σ low high room (refused_9 w) e = absurd (let z : ◌≡◌ {A = ℕ} 0 1 = cc in omega arith)
long_says σ low high room (refused_8 w) e = w

-- 8 exactly when no segment of the stretch is wrong, and its keys from low to high are more than the out slice holds
pub eight_long : (σ : Store) (low high room : ℕ) → range_of σ low high room ≡ Err OutRoom → Long σ low high room
eight_long σ low high room e = long_says σ low high room (answers σ low high room) e

pub long_eight : (σ : Store) (low high room : ℕ) → Long σ low high room → range_of σ low high room ≡ Err OutRoom
long_eight σ low high room w = sym (long_is σ low high room w)
