-- Demand 1 for lookup: its answer is the one that 01 describes, refusals exactly when and in the order its table says, and only that one.
-- Assumes nothing.
use Rattle.std.specs.Prelude.{Option, Some, None, Result, Ok, Err}
use Rattle.terms.specs.declared.Refusal.{Refusal}
use Rattle.terms.specs.declared.Refusal.TheVariants.{Limits as OutOfLimits, LargeKey}
use Rattle.terms.specs.declared.Entry.{Entry}
use mathlib.Core.Path.{◌≡◌, refl, sym, ap, ◌∙◌}
use mathlib.Core.Bool.{true, false}
use Prim.Native.Nat.{ℕ, ◌+◌, ◌-◌, ◌*◌, ◌≤◌, ◌<◌}
use native.Mathlib.Omega.{arith}
use lib.ListN.{length, get_or}
use lib.Seq.{get_or-take, get_or-drop}
use borrow.Author.Tests.{ltb-true, ltb-false, lt-ltb, le-ltb}
use Rattle.lists.proofs.Tests.{either, clash}
use Rattle.terms.specs.Limits.{key_of}
use Rattle.terms.specs.Keys.{is_key}
use Rattle.table.specs.Store.{Store, in_use, sizes_in}
use Rattle.table.specs.Limits.{Limits, limited_of}
use Rattle.table.specs.Entries.{entry_in, run_in, used_in, used_of}
use Rattle.table.specs.Damaged.{damaged_of}
use Rattle.choose.specs.Chosen.{chosen_of}
use Rattle.choose.specs.Picked.{judged_of, picked_of, picked_in}
use Rattle.table.proofs.Limits.{limited_true, true_limited}
use Rattle.table.proofs.Damages.{damaged_false, false_damaged}
use Rattle.choose.proofs.Chosen.{chosen_is, one_choice}
use Rattle.choose.proofs.Laws.{picked_sound, picked_wrong}
use Rattle.segment.proofs.Laws.{lent}
use Rattle.line.specs.Line.{window_of}
use Rattle.line.specs.Meaning.{Within}
use Rattle.line.proofs.Meaning.{near_within, within_near}
use Rattle.scan.specs.Scan.{lowest_of}
use Rattle.scan.specs.Meaning.{Holds, Scanned}
use Rattle.scan.proofs.Meaning.{scanned, one_answer, scanned_same}
use Rattle.answers.specs.declared.Looked.{Looked}
use Rattle.answers.specs.declared.Looked.TheVariants.{InRun}
use Rattle.lookup.specs.Lookup.{slot_of, place_or, buffered_of, searched_of, picked_for, lookup_of}
use Rattle.lookup.proofs.Window.{window_shifted}
use Rattle.lookup_laws.specs.Answers.{Asked, Taken, Stands, Waits, Answers, in_run, in_buffer, absent, refused_1, refused_2, refused_9}

-- ---- segment i, once it is taken
module _ (σ : Store) (k i : ℕ) where
  abbrev WindowIn : ℕ → Type 0
  WindowIn p = Within (window_of (in_use σ) (entry_in σ i) (key_of k)) p

  abbrev start : ℕ
  start = (window_of (in_use σ) (entry_in σ i) (key_of k)).from.0

  abbrev count : ℕ
  count = (window_of (in_use σ) (entry_in σ i) (key_of k)).to.0 - start

  -- a position of the scan stands in the window, and the reverse
  stands : (p : ℕ) → start ≤ p → p < start + count → Holds σ.keys k p → Stands σ k i p
  stands p a b e = record { near = within_near (in_use σ) (entry_in σ i) (key_of k) p (record { from = a; below = omega arith }); is = e }

  module _ (p : ℕ) (w : Stands σ k i p) where
    within : WindowIn p
    within = near_within (in_use σ) (entry_in σ i) (key_of k) p w.near

    before_end : p < start + count
    before_end = omega (arith, within)

  -- a used slot, in the list of the used slots and in the buffers
  pub slot_at : (j : ℕ) → j < (entry_in σ i).held → get_or (used_of σ.b σ.buffers i (entry_in σ i).held) j 0 ≡ get_or σ.buffers (i * σ.b + j) 0
  slot_at j h = rw (get_or-take, get_or-drop)

  abbrev held : ℕ
  held = (entry_in σ i).held

  -- the two scans, said of the store
  abbrev in_window : Option ℕ
  in_window = lowest_of σ.keys start count k

  abbrev in_slots : Option ℕ
  in_slots = lowest_of (used_of σ.b σ.buffers i held) 0 held k

  window_scanned : Scanned (Stands σ k i) start (start + count) in_window
  window_scanned = scanned_same (Holds σ.keys k) (Stands σ k i) start (start + count) stands (λ q h g w. w.is) in_window (scanned σ.keys k start count)

  slots_scanned : Scanned (Waits σ k i) 0 held in_slots
  slots_scanned =
      let z : 0 + held ≡ held = omega arith in
      scanned_same (Holds (used_of σ.b σ.buffers i held) k) (Waits σ k i) 0 held (λ q h g e. sym (slot_at q g) ∙ e) (λ q h g e. slot_at q g ∙ e) in_slots
      (rw z at (scanned (used_of σ.b σ.buffers i held) k 0 held))

  module _ (taken : Taken σ k i) where
    searched : (f g : Option ℕ) → Scanned (Stands σ k i) start (start + count) f → Scanned (Waits σ k i) 0 held g → Answers σ k (Ok (place_or (slot_of i g) f))
    searched (Some p) g v w = in_run (record { segment = i; taken = taken; here = v.holds; first = λ q h s. v.first q (within q s).from h s })
    searched None (Some j) v w = in_buffer (record { taken = taken; not_running = λ q s. v q (within q s).from (before_end q s) s; lowest = w })
    searched None None v w = absent (record { segment = i; taken = taken; not_running = λ q s. v q (within q s).from (before_end q s) s; not_waiting = w })

    -- the search of the lent parts, said of the store
    used_length : length (used_in σ i) ≡ held
    used_length =
        (lent (sizes_in σ) σ.keys σ.table σ.buffers taken.asked.limits i (entry_in σ i) taken.asked.chosen.inside taken.sound refl refl).used_whole

    pub searched_is : searched_of (in_use σ) (entry_in σ i) i (run_in σ i) (used_in σ i) (key_of k) ≡ place_or (slot_of i in_slots) in_window
    unfolding searched_of buffered_of
    searched_is = rw (window_shifted (in_use σ) (entry_in σ i) (key_of k) σ.keys, used_length) refl

    taken_answers : Answers σ k (Ok (searched_of (in_use σ) (entry_in σ i) i (run_in σ i) (used_in σ i) (key_of k)))
    taken_answers = rw searched_is (searched in_window in_slots window_scanned slots_scanned)

  asked_answers : Asked σ k i → Answers σ k (picked_for σ k (judged_of (sizes_in σ) i (entry_in σ i)))
  asked_answers asked =
      either (damaged_of σ.b σ.n (entry_in σ i))
      (λ t. simp t (refused_9 asked (λ s. clash (sym t ∙ false_damaged _ _ _ s))))
      (λ t. simp t (taken_answers (record { asked = asked; sound = damaged_false _ _ _ t })))

-- Lookup's answer means what it should.
pub answers : (σ : Store) (k : ℕ) → Answers σ k (lookup_of σ k)
unfolding lookup_of picked_of
answers σ k =
    either (limited_of σ)
    (λ t.
    let l : Limits σ = limited_true σ t in
    either (is_key k)
    (λ u. simp (t, u) (asked_answers σ k (chosen_of σ.table σ.s k) (record { limits = l; key = ltb-true _ _ u; chosen = chosen_is σ.table k σ.s l.s_least })))
    (λ u. simp (t, u) (refused_2 l (ltb-false _ _ u))))
    (λ t. simp t (refused_1 (λ l. clash (sym (true_limited σ l) ∙ t))))

-- ---- and nothing else does: what each step says fixes what is left of the answer
module _ (σ : Store) (k : ℕ) where
  limits_refused : limited_of σ ≡ false → Err OutOfLimits ≡ lookup_of σ k
  unfolding lookup_of
  limits_refused l = simp l

  module _ (limited : limited_of σ ≡ true) where
    key_refused : is_key k ≡ false → Err (LargeKey (record { 0 = 0 })) ≡ lookup_of σ k
    unfolding lookup_of
    key_refused large = simp (limited, large)

    picks_on : is_key k ≡ true → {g : Result (ℕ × Entry) Refusal} → g ≡ picked_in σ k → picked_for σ k g ≡ lookup_of σ k
    unfolding lookup_of
    picks_on small g = simp (limited, small) (ap (picked_for σ k) g)

module _ (σ : Store) (k i : ℕ) where
  pub chosen_one : Asked σ k i → i ≡ chosen_of σ.table σ.s k
  chosen_one asked = one_choice σ.table k σ.s i _ asked.chosen (chosen_is σ.table k σ.s asked.limits.s_least)

  module _ (taken : Taken σ k i) where
    taken_looked : {a : Looked} → a ≡ searched_of (in_use σ) (entry_in σ i) i (run_in σ i) (used_in σ i) (key_of k) → Ok a ≡ lookup_of σ k
    taken_looked p =
        ap Ok p
        ∙ picks_on σ k (true_limited σ taken.asked.limits) (lt-ltb _ _ taken.asked.key)
        (picked_sound (sizes_in σ) σ.table k (chosen_one taken.asked) refl refl (false_damaged _ _ _ taken.sound))

    -- by what the two scans find
    found : (f g : Option ℕ) → Scanned (Stands σ k i) (start σ k i) (start σ k i + count σ k i) f → Scanned (Waits σ k i) 0 (held σ k i) g →
        Ok (place_or (slot_of i g) f) ≡ lookup_of σ k
    found f g v w =
        let p : f ≡ in_window σ k i = one_answer (Stands σ k i) (start σ k i) (start σ k i + count σ k i) f (in_window σ k i) v (window_scanned σ k i) in
        let q : g ≡ in_slots σ k i = one_answer (Waits σ k i) 0 (held σ k i) g (in_slots σ k i) w (slots_scanned σ k i) in
        taken_looked (rw (p, q) (sym (searched_is σ k i taken)))

  running_looked : (p : ℕ) (taken : Taken σ k i) → Stands σ k i p → ((q : ℕ) → q < p → Stands σ k i q → ⊥) → Ok (InRun (record { 0 = p })) ≡ lookup_of σ k
  running_looked p taken here first =
      found taken (Some p) (in_slots σ k i)
      (record { from = (within σ k i p here).from; below = before_end σ k i p here; holds = here; first = λ q h g e. first q g e }) (slots_scanned σ k i)

-- An answer that means what it should is lookup's.
pub only : (σ : Store) (k : ℕ) (a : Result Looked Refusal) → Answers σ k a → a ≡ lookup_of σ k
only σ k a (in_run {p} w) = running_looked σ k w.segment p w.taken w.here w.first
only σ k a (in_buffer {i} {j} w) = found σ k i w.taken None (Some j) (λ q h g s. w.not_running q s) w.lowest
only σ k a (absent w) = found σ k w.segment w.taken None None (λ q h g s. w.not_running q s) w.not_waiting
only σ k a (refused_1 w) = either (limited_of σ) (λ t. absurd (w (limited_true σ t))) (λ t. limits_refused σ k t)
only σ k a (refused_2 l h) = key_refused σ k (true_limited σ l) (le-ltb _ _ h)
only σ k a (refused_9 {i} asked damage) =
    either (damaged_of σ.b σ.n (entry_in σ i))
    (λ t.
    picks_on σ k (true_limited σ asked.limits) (lt-ltb _ _ asked.key)
    (picked_wrong (sizes_in σ) σ.table k (chosen_one σ k i asked) refl refl t))
    (λ t. absurd (damage (damaged_false _ _ _ t)))
