-- Demand 1 for insert: its answer is the one that 01 describes, refusals exactly when and in the order its table says, and only that one.
-- Assumes nothing.
use Rattle.std.specs.Prelude.{Option, Some, None, Result, Ok, Err}
use Rattle.terms.specs.declared.Refusal.{Refusal}
use mathlib.Core.Path.{◌≡◌, refl, sym, ap, ◌∙◌, subst}
use mathlib.Core.Bool.{Bool, true, false}
use mathlib.Core.List.{List, [], ◌∷◌}
use Prim.Native.Nat.{ℕ, zero, suc, ◌+◌, ◌-◌, ◌≤◌, ◌<◌}
use native.Mathlib.Omega.{arith}
use lib.Dec.{ltb, leb}
use lib.ListN.{length, get_or}
use borrow.Author.Tests.{leb-true, leb-false, le-leb, lt-leb, ltb-true, ltb-false, lt-ltb, le-ltb}
use Rattle.lists.specs.Tests.{pick}
use Rattle.lists.specs.Merge.{place_of}
use Rattle.lists.proofs.Tests.{either, clash, is_false, pick_cases}
use Rattle.terms.specs.Limits.{key_of}
use Rattle.terms.specs.Keys.{is_key, rising_keys, RisingKeys}
use Rattle.terms.specs.declared.Entry.{Entry}
use Rattle.terms.specs.declared.Refusal.TheVariants.{Limits as OutOfLimits, LargeKey, Present, KeyRoom, SegmentRoom, StoreWrong}
use Rattle.terms.proofs.Keys.{rising_true, true_rising}
use Rattle.table.specs.Store.{Store, sizes_in, in_use}
use Rattle.table.specs.Limits.{Limits, limited_of, key_room, segment_room}
use Rattle.table.specs.Entries.{entry_in, run_in, used_in}
use Rattle.table.specs.Damaged.{Sound, damaged_of}
use Rattle.table.proofs.Limits.{limited_true, true_limited}
use Rattle.table.proofs.Damages.{damaged_false, false_damaged}
use Rattle.choose.specs.Chosen.{chosen_of}
use Rattle.choose.specs.Picked.{judged_of, picked_of, picked_in}
use Rattle.choose.proofs.Chosen.{chosen_is}
use Rattle.choose.proofs.Laws.{picked_sound, picked_wrong}
use Rattle.line.specs.Line.{reach_of}
use Rattle.scan.specs.Scan.{lowest_of, shifted}
use Rattle.scan.specs.Meaning.{Scanned}
use Rattle.scan.proofs.Meaning.{fails_scanned, scanned_same, one_answer}
use Rattle.answers.specs.declared.Looked.{Looked}
use Rattle.answers.specs.declared.Looked.TheVariants.{InRun, InBuffer, Absent}
use Rattle.lookup.specs.Lookup.{slot_of, place_or, lowest_in, buffered_of, searched_of, picked_for as found_for, lookup_of}
use Rattle.lookup_laws.specs.Answers.{Asked, Taken, Answers as Looks, in_run, in_buffer, absent}
use Rattle.lookup_laws.proofs.Meaning.{answers as looks, only as looked, chosen_one}
use Rattle.insert_pieces.specs.Judged.{cutting_of}
use Rattle.insert_decide.specs.declared.Weighed.{Weighed}
use Rattle.insert_decide.specs.declared.Weighed.TheVariants.{Slot}
use Rattle.insert_decide.specs.Weighed.{cut_for, rest_of, unless_at, weighed_of}
use Rattle.insert_write.specs.Merged.{merged_with, pieces_of, Passes}
use Rattle.insert_decide.specs.declared.Decided.{Decided}
use Rattle.insert_decide.specs.declared.Decided.TheVariants.{Put, Merge}
use Rattle.insert_decide.specs.Decided.{passes_of, later_of, roomed_of, room_for, later_for, merge_for, weighed_for, sound_for, picked_for, decided_of}
use Rattle.insert_decide.proofs.Laws.{limits_refused, key_refused, picks_on}
use Rattle.answers.specs.declared.Inserted.{Inserted}
use Rattle.answers.specs.declared.Inserted.TheVariants.{Buffered, Merged}
use Rattle.insert.specs.Insert.{answer_of, insert_of}
use Rattle.insert.proofs.Due.{passes_true, true_passes}
use Rattle.insert_laws.specs.Answers.{Judged, New, Place, Due, Rising, Ready, Answers, buffered, merged, refused_1, refused_2, refused_9_entry, refused_9_buffer, refused_5_run, refused_5_slot, refused_9_merged, refused_9_later, refused_6, refused_7}

-- ---- the rising place

pub place_is : (k : ℕ) (xs : List ℕ) → Place k xs (place_of k xs)
unfolding place_of
place_is k [] = record { inside = omega arith; before = λ m h. absurd (omega arith); here = λ h. absurd (omega arith) }
place_is k (x ∷ xs) =
    either (ltb x k)
    (λ t. let w : Place k xs (place_of k xs) = place_is k xs in
    simp t (record { inside = omega (arith, w.inside); before = below (ltb-true x k t) w.before; here = λ h. w.here (omega arith) }))
    (λ t. simp t (record { inside = omega arith; before = λ m h. absurd (omega arith); here = λ h. ltb-false x k t }))
  where
    below : x < k → ((m : ℕ) → m < place_of k xs → get_or xs m 0 < k) → (m : ℕ) → m < suc (place_of k xs) → get_or (x ∷ xs) m 0 < k
    below l rest zero h = l
    below l rest (suc m) h = rest m (omega arith)

pub one_place : (k : ℕ) (xs : List ℕ) (i j : ℕ) → Place k xs i → Place k xs j → i ≡ j
one_place k xs i j v w =
    either (ltb i j) (λ t. let l : i < j = ltb-true i j t in absurd (omega (arith, w.before i l, v.here (omega (arith, w.inside)))))
    (λ t. either (ltb j i) (λ u. let l : j < i = ltb-true j i u in absurd (omega (arith, v.before j l, w.here (omega (arith, v.inside)))))
    (λ u. omega (arith, ltb-false i j t, ltb-false j i u)))

-- ---- a later entry

abbrev later_in : Store → ℕ → Option ℕ
later_in σ i = later_of σ.b σ.n σ.s σ.table i

-- the lowest later entry that is wrong
pub later_scanned : (σ : Store) (i : ℕ) → i < σ.s → Scanned (λ j. Passes σ j → ⊥) (suc i) σ.s (later_in σ i)
unfolding later_of
later_scanned σ i inside =
    let e : suc i + (σ.s - suc i) ≡ σ.s = omega arith in
    subst (λ (z : ℕ). Scanned (λ j. Passes σ j → ⊥) (suc i) z (later_in σ i)) e
    (scanned_same (λ j. test j ≡ false) (λ j. Passes σ j → ⊥) (suc i) (suc i + (σ.s - suc i)) (λ q h g t w. clash (sym (true_passes σ q w) ∙ t))
    (λ q h g f. is_false (test q) (λ t. f (passes_true σ q t))) (later_in σ i) (fails_scanned test (suc i) (σ.s - suc i)))
  where
    test : ℕ → Bool
    test j = passes_of σ.b σ.n σ.table j

-- ---- what is decided, from the merged list back to the entry
module _ (σ : Store) (k i : ℕ) where
  abbrev x : Entry
  x = entry_in σ i

  -- what becomes of k if it is new
  abbrev rest : Result Weighed Refusal
  rest = rest_of i (in_use σ) σ.b x.held (place_of k (used_in σ i)) (run_in σ i) (used_in σ i) k

  -- lookup, once the segment is taken: by what it finds
  abbrev searched : Looked
  searched = searched_of (in_use σ) x i (run_in σ i) (used_in σ i) (key_of k)

  abbrev unless_found : Looked → Result Weighed Refusal
  unless_found (InRun p) = Err Present
  unless_found (InBuffer i j) = Err Present
  unless_found Absent = rest

  by_scans : (f g : Option ℕ) → unless_at f (unless_at g rest) ≡ unless_found (place_or (slot_of i g) (shifted x.base.0 f))
  by_scans (Some p) g = refl
  by_scans None (Some j) = refl
  by_scans None None = refl

  by_lookup : weighed_of i (in_use σ) σ.b x (run_in σ i) (used_in σ i) (key_of k) ≡ pick (rising_keys (used_in σ i)) (unless_found searched) (Err (StoreWrong i))
  unfolding weighed_of searched_of buffered_of
  by_lookup = rw (by_scans (lowest_in (run_in σ i) (reach_of (in_use σ) x (key_of k)) k) (lowest_of (used_in σ i) 0 (length (used_in σ i)) k)) refl

  -- the segment is picked
  picked_is : Taken σ k i → Ok (i, x) ≡ picked_in σ k
  picked_is taken = picked_sound (sizes_in σ) σ.table k (chosen_one σ k i taken.asked) refl refl (false_damaged _ _ _ taken.sound)

  searched_is : Taken σ k i → Ok searched ≡ lookup_of σ k
  unfolding lookup_of
  searched_is taken = simp (true_limited σ taken.asked.limits, lt-ltb _ _ taken.asked.key) (ap (found_for σ k) (picked_is taken))

-- ---- the answer means what it should

abbrev Tells : Store → ℕ → Result Decided Refusal → Type 0
Tells σ k d = Answers σ k (answer_of (sizes_in σ) d)

module _ (σ : Store) (k i : ℕ) where
  abbrev Weighs : Result Weighed Refusal → Type 0
  Weighs w = Tells σ k (weighed_for σ i (entry_in σ i) w)

  room_answers : Ready σ k i → Tells σ k (room_for σ i (entry_in σ i) (pieces_of σ i k))
  unfolding room_for roomed_of
  room_answers ready =
      pick_cases (Tells σ k) (leb (σ.n + σ.b) (key_room σ.keys)) _ _
      (λ u. pick_cases (Tells σ k) (leb (σ.s - 1 + pieces_of σ i k) (segment_room σ.b σ.table σ.buffers)) _ _
      (λ v. merged ready (leb-true _ _ u) (leb-true _ _ v))
      (λ v. refused_7 ready (leb-true _ _ u) (leb-false _ _ v)))
      (λ u. refused_6 ready (leb-false _ _ u))

  due_answers : Due σ k i → Weighs (cut_for i (cutting_of (in_use σ) (merged_with σ i k)))
  unfolding cutting_of merge_for
  due_answers due =
      pick_cases (λ (c : Option ℕ). Weighs (cut_for i c)) (rising_keys (merged_with σ i k)) _ _
      (λ u. go (record { due = due; rises = rising_true (merged_with σ i k) u }) (later_in σ i) (later_scanned σ i due.new.judged.taken.asked.chosen.inside))
      (λ u. refused_9_merged due (λ r. clash (sym (true_rising (merged_with σ i k) r) ∙ u)))
    where
      go : Rising σ k i → (f : Option ℕ) → Scanned (λ j. Passes σ j → ⊥) (suc i) σ.s f → Tells σ k (later_for f (room_for σ i (entry_in σ i) (pieces_of σ i k)))
      go rising (Some j) w = refused_9_later rising w
      go rising None w = room_answers (record { rising = rising; later = w })

  new_answers : New σ k i → Weighs (rest σ k i)
  unfolding rest_of
  new_answers new =
      pick_cases Weighs (ltb ((entry_in σ i).held + 1) σ.b) _ _
      (λ u. buffered new (ltb-true _ _ u) (place_is k (used_in σ i)))
      (λ u. due_answers (record { new = new; full = omega (arith, ltb-false ((entry_in σ i).held + 1) σ.b u, new.judged.taken.sound.held_below) }))

  same_segment : (j : ℕ) → Asked σ k i → Asked σ k j → j ≡ i
  same_segment j v w = chosen_one σ k j w ∙ sym (chosen_one σ k i v)

  found_answers : Judged σ k i → (l : Looked) → Looks σ k (Ok l) → Weighs (unless_found σ k i l)
  found_answers judged l (in_run w) = refused_5_run judged w
  found_answers judged l (in_buffer {i = j} w) =
      let e : j ≡ i = same_segment j judged.taken.asked w.taken.asked in
      refused_5_slot judged (rw e at w)
  found_answers judged l (absent w) =
      let e : w.segment ≡ i = same_segment w.segment judged.taken.asked w.taken.asked in
      new_answers (record { judged = judged; not_running = rw e at w.not_running; not_waiting = rw e at w.not_waiting })

  taken_answers : Taken σ k i → Tells σ k (sound_for σ i (entry_in σ i) (key_of k))
  unfolding sound_for
  taken_answers taken =
      subst Weighs (sym (by_lookup σ k i))
      (pick_cases Weighs (rising_keys (used_in σ i)) _ _
      (λ v. found_answers (record { taken = taken; used_rises = rising_true (used_in σ i) v }) (searched σ k i) (subst (λ (l : Result Looked Refusal). Looks σ k l) (sym (searched_is σ k i taken)) (looks σ k)))
      (λ v. refused_9_buffer taken (λ r. clash (sym (true_rising (used_in σ i) r) ∙ v))))

  asked_answers : Asked σ k i → Tells σ k (picked_for σ k (judged_of (sizes_in σ) i (entry_in σ i)))
  asked_answers asked =
      pick_cases (λ (g : Result (ℕ × Entry) Refusal). Tells σ k (picked_for σ k g)) (damaged_of σ.b σ.n (entry_in σ i)) _ _
      (λ u. refused_9_entry asked (λ s. clash (sym u ∙ false_damaged _ _ _ s)))
      (λ u. taken_answers (record { asked = asked; sound = damaged_false _ _ _ u }))

-- Insert's answer means what it should.
pub answers : (σ : Store) (k : ℕ) → Answers σ k (insert_of σ k)
unfolding insert_of decided_of picked_of
answers σ k =
    pick_cases (Tells σ k) (limited_of σ) _ _
    (λ t.
    let l : Limits σ = limited_true σ t in
    pick_cases (Tells σ k) (is_key k) _ _
    (λ u. asked_answers σ k (chosen_of σ.table σ.s k) (record { limits = l; key = ltb-true _ _ u; chosen = chosen_is σ.table k σ.s l.s_least }))
    (λ u. refused_2 l (ltb-false _ _ u)))
    (λ t. refused_1 (λ l. clash (sym (true_limited σ l) ∙ t)))

-- ---- and nothing else does: what is known so far fixes what is left of the decision
module _ (σ : Store) (k : ℕ) where
  decided : (d : Result Decided Refusal) → d ≡ decided_of σ k → answer_of (sizes_in σ) d ≡ insert_of σ k
  unfolding insert_of
  decided d e = ap (answer_of (sizes_in σ)) e

module _ (σ : Store) (k i : ℕ) where
  entry_wrong : Asked σ k i → (Sound σ.b σ.n (entry_in σ i) → ⊥) → Err (StoreWrong i) ≡ decided_of σ k
  entry_wrong asked damage =
      either (damaged_of σ.b σ.n (entry_in σ i))
      (λ t. ap (picked_for σ k) (picked_wrong (sizes_in σ) σ.table k (chosen_one σ k i asked) refl refl t) ∙ picks_on σ k (true_limited σ asked.limits) (lt-ltb _ _ asked.key))
      (λ t. absurd (damage (damaged_false _ _ _ t)))

  taken_is : Taken σ k i → (w : Result Weighed Refusal) → w ≡ pick (rising_keys (used_in σ i)) (unless_found σ k i (searched σ k i)) (Err (StoreWrong i)) → weighed_for σ i (entry_in σ i) w ≡ decided_of σ k
  unfolding sound_for
  taken_is taken w q =
      ap (weighed_for σ i (entry_in σ i)) (q ∙ sym (by_lookup σ k i))
      ∙ ap (picked_for σ k) (picked_is σ k i taken) ∙ picks_on σ k (true_limited σ taken.asked.limits) (lt-ltb _ _ taken.asked.key)

  buffer_wrong : Taken σ k i → (RisingKeys (used_in σ i) → ⊥) → Err (StoreWrong i) ≡ decided_of σ k
  buffer_wrong taken falls =
      let u : rising_keys (used_in σ i) ≡ false = is_false (rising_keys (used_in σ i)) (λ t. falls (rising_true (used_in σ i) t)) in
      taken_is taken (Err (StoreWrong i)) (simp u)

  same_looked : {l m : Looked} → ◌≡◌ {A = Result Looked Refusal} (Ok l) (Ok m) → l ≡ m
  same_looked e = cc

  judged_is : Judged σ k i → {l : Looked} → Ok l ≡ lookup_of σ k → weighed_for σ i (entry_in σ i) (unless_found σ k i l) ≡ decided_of σ k
  judged_is judged {l} q =
      let u : rising_keys (used_in σ i) ≡ true = true_rising (used_in σ i) judged.used_rises in
      taken_is judged.taken (unless_found σ k i l) (simp u (ap (unless_found σ k i) (same_looked (q ∙ sym (searched_is σ k i judged.taken)))))

  new_is : New σ k i → (w : Result Weighed Refusal) → w ≡ rest σ k i → weighed_for σ i (entry_in σ i) w ≡ decided_of σ k
  new_is new w q =
      ap (weighed_for σ i (entry_in σ i)) q ∙ judged_is new.judged
      (looked σ k (Ok Absent) (absent (record { segment = i; taken = new.judged.taken; not_running = new.not_running; not_waiting = new.not_waiting })))

  due_is : Due σ k i → (c : Option ℕ) → c ≡ cutting_of (in_use σ) (merged_with σ i k) → weighed_for σ i (entry_in σ i) (cut_for i c) ≡ decided_of σ k
  unfolding rest_of
  due_is due c q =
      let f : σ.b ≤ (entry_in σ i).held + 1 = omega (arith, due.full) in
      let t : ltb ((entry_in σ i).held + 1) σ.b ≡ false = le-ltb _ _ f in
      new_is due.new (cut_for i c) (simp t (ap (cut_for i) q))

  merge_wrong : Due σ k i → (RisingKeys (merged_with σ i k) → ⊥) → Err (StoreWrong i) ≡ decided_of σ k
  unfolding cutting_of
  merge_wrong due falls =
      let u : rising_keys (merged_with σ i k) ≡ false = is_false (rising_keys (merged_with σ i k)) (λ t. falls (rising_true (merged_with σ i k) t)) in
      due_is due None (simp u)

  rising_is : (f : Option ℕ) → Rising σ k i → Scanned (λ j. Passes σ j → ⊥) (suc i) σ.s f → later_for f (room_for σ i (entry_in σ i) (pieces_of σ i k)) ≡ decided_of σ k
  unfolding cutting_of merge_for
  rising_is f rising w =
      let u : rising_keys (merged_with σ i k) ≡ true = true_rising (merged_with σ i k) rising.rises in
      let e : f ≡ later_in σ i =
      one_answer (λ j. Passes σ j → ⊥) (suc i) σ.s f (later_in σ i) w (later_scanned σ i rising.due.new.judged.taken.asked.chosen.inside) in
      ap (λ (g : Option ℕ). later_for g (room_for σ i (entry_in σ i) (pieces_of σ i k))) e ∙ due_is rising.due (Some (pieces_of σ i k)) (simp u)

  ready_is : Ready σ k i → (d : Result Decided Refusal) → d ≡ room_for σ i (entry_in σ i) (pieces_of σ i k) → answer_of (sizes_in σ) d ≡ insert_of σ k
  ready_is ready d q = decided σ k d (q ∙ rising_is None ready.rising ready.later)

  ready_merged : Ready σ k i → σ.n + σ.b ≤ key_room σ.keys → σ.s - 1 + pieces_of σ i k ≤ segment_room σ.b σ.table σ.buffers →
      Ok (Merged i (pieces_of σ i k) (σ.n + σ.b) (σ.s - 1 + pieces_of σ i k)) ≡ insert_of σ k
  unfolding room_for roomed_of
  ready_merged ready u v = ready_is ready (Ok (Merge i (entry_in σ i) (pieces_of σ i k))) (simp (le-leb _ _ u, le-leb _ _ v))

  ready_cramped : Ready σ k i → σ.n + σ.b ≤ key_room σ.keys → segment_room σ.b σ.table σ.buffers < σ.s - 1 + pieces_of σ i k →
      Err SegmentRoom ≡ insert_of σ k
  unfolding room_for roomed_of
  ready_cramped ready u v = ready_is ready (Err SegmentRoom) (simp (le-leb _ _ u, lt-leb _ _ v))

  ready_crowded : Ready σ k i → key_room σ.keys < σ.n + σ.b → Err KeyRoom ≡ insert_of σ k
  unfolding room_for
  ready_crowded ready u = ready_is ready (Err KeyRoom) (simp (lt-leb _ _ u))

  new_buffered : (j : ℕ) → New σ k i → (entry_in σ i).held + 1 < σ.b → Place k (used_in σ i) j → Ok (Buffered i j) ≡ insert_of σ k
  unfolding rest_of
  new_buffered j new free place =
      let e : j ≡ place_of k (used_in σ i) = one_place k (used_in σ i) j (place_of k (used_in σ i)) place (place_is k (used_in σ i)) in
      decided σ k (Ok (Put i (entry_in σ i) j)) (new_is new (Ok (Slot j)) (simp (lt-ltb _ _ free) (ap (λ (p : ℕ). Ok (Slot p)) e)))

limits_wrong : (σ : Store) (k : ℕ) → (Limits σ → ⊥) → Err OutOfLimits ≡ decided_of σ k
limits_wrong σ k w = either (limited_of σ) (λ t. absurd (w (limited_true σ t))) (λ t. limits_refused σ k t)

-- An answer that means what it should is insert's.
pub only : (σ : Store) (k : ℕ) (a : Result Inserted Refusal) → Answers σ k a → a ≡ insert_of σ k
only σ k a (buffered {i} {j} new free place) = new_buffered σ k i j new free place
only σ k a (merged {i} ready u v) = ready_merged σ k i ready u v
only σ k a (refused_1 w) = decided σ k (Err OutOfLimits) (limits_wrong σ k w)
only σ k a (refused_2 l h) = decided σ k (Err (LargeKey (record { 0 = 0 }))) (key_refused σ k (true_limited σ l) (le-ltb _ _ h))
only σ k a (refused_9_entry {i} asked damage) = decided σ k (Err (StoreWrong i)) (entry_wrong σ k i asked damage)
only σ k a (refused_9_buffer {i} taken falls) = decided σ k (Err (StoreWrong i)) (buffer_wrong σ k i taken falls)
only σ k a (refused_5_run {i} {p} judged w) = decided σ k (Err Present) (judged_is σ k i judged (looked σ k (Ok (InRun (record { 0 = p }))) (in_run w)))
only σ k a (refused_5_slot {i} {j} judged w) = decided σ k (Err Present) (judged_is σ k i judged (looked σ k (Ok (InBuffer i j)) (in_buffer w)))
only σ k a (refused_9_merged {i} due falls) = decided σ k (Err (StoreWrong i)) (merge_wrong σ k i due falls)
only σ k a (refused_9_later {i} {j} rising w) = decided σ k (Err (StoreWrong j)) (rising_is σ k i (Some j) rising w)
only σ k a (refused_6 {i} ready u) = ready_crowded σ k i ready u
only σ k a (refused_7 {i} ready u v) = ready_cramped σ k i ready u v
