-- Insert on an accepted store: which answer it gives, and when. It never says that the store is wrong, and refuses by 5 exactly where the plain
-- list has the key.
-- Assumes nothing.
use Rattle.std.specs.Prelude.{Result, Ok, Err}
use Rattle.terms.specs.declared.Refusal.{Refusal}
use mathlib.Core.Path.{◌≡◌, refl, sym, subst, ◌∙◌}
use mathlib.Core.List.{List}
use Prim.Native.Nat.{ℕ, ◌+◌, ◌-◌, ◌<◌}
use native.Mathlib.Omega.{arith}
use lib.ListN.{length}
use Rattle.lists.specs.Rising.{In}
use Rattle.lists.specs.Merge.{insert_sorted, place_of}
use Rattle.lists.proofs.Merging.{in_merge_left, merge_insert, insert_up, length_merge, length_insert}
use Rattle.terms.specs.Keys.{NoKey, RisingKeys}
use Rattle.terms.specs.declared.Pos.{Pos}
use Rattle.terms.specs.declared.Refusal.TheVariants.{Limits as OutOfLimits, LargeKey, Present, StoreWrong}
use Rattle.terms.proofs.Keys.{rising_key, rising_split}
use Rattle.table.specs.Store.{Store}
use Rattle.table.specs.Entries.{entry_in, run_in, used_in}
use Rattle.table.specs.Damaged.{Sound}
use Rattle.table.specs.Reads.{merged_in, reads}
use Rattle.judge.specs.Rules.{Rules, Accepted}
use Rattle.judge_laws.proofs.Segments.{reads_rise}
use Rattle.judge_laws.proofs.Whereabouts.{where_read}
use Rattle.lookup_laws.specs.Answers.{in_run, in_buffer}
use Rattle.theory_shown.proofs.Views.{length_run, length_used}
use Rattle.theory_shown.proofs.Found.{run_in_lem, slot_in, answer_read, missing_unread}
use Rattle.answers.specs.declared.Inserted.{Inserted}
use Rattle.answers.specs.declared.Inserted.TheVariants.{Buffered}
use Rattle.insert_write.specs.Merged.{merged_with, Passes}
use Rattle.insert.specs.Insert.{insert_of}
use Rattle.insert_laws.specs.Answers.{New, Due as Full, Ready, Answers, buffered as slotted, merged as joined, refused_1, refused_2, refused_9_entry, refused_9_buffer, refused_5_run, refused_5_slot, refused_9_merged, refused_9_later, refused_6, refused_7}
use Rattle.insert_laws.proofs.Meaning.{place_is, one_place, answers, only}
use Rattle.theory_kept.specs.Outcome.{Wanted, Due, Says, Outcome, large, present, buffered, no_keys, no_segments, merged}

module _ (σ : Store) (ok : Accepted σ) (k : ℕ) where
  -- no entry stands in the way, and no buffer
  passes : (j : ℕ) → j < σ.s → Passes σ j
  passes j h = let s : Sound σ.b σ.n (entry_in σ j) = (ok.rules j h).sound in omega (arith, s)

  used_rises : (j : ℕ) → j < σ.s → RisingKeys (used_in σ j)
  used_rises j h = (rising_split (run_in σ j) (used_in σ j) (ok.rules j h).rising).right

  module _ (i : ℕ) (wanted : Wanted σ k i) where
    inside : i < σ.s
    inside = wanted.chosen.inside

    rules : Rules σ i
    rules = ok.rules i inside

    -- the segment does not have k
    pub other_here : In k (merged_in σ i) → ⊥
    other_here j = wanted.other (where_read σ ok k i wanted.chosen j)

    -- "the run, the used slots and k become one rising list": the segment's reads with k in its place
    pub list_is : merged_with σ i k ≡ insert_sorted k (merged_in σ i)
    list_is = merge_insert k (run_in σ i) (used_in σ i) (λ j. other_here (in_merge_left k (run_in σ i) (used_in σ i) j))

    pub list_rises : RisingKeys (merged_with σ i k)
    list_rises = subst (λ (l : List ℕ). RisingKeys l) (sym list_is) (insert_up k _ _ (merged_in σ i) (omega arith) wanted.small other_here rules.rising)

    pub list_length : length (merged_with σ i k) ≡ (entry_in σ i).end.0 - (entry_in σ i).base.0 + ((entry_in σ i).held + 1)
    list_length =
        length_merge (run_in σ i) (insert_sorted k (used_in σ i)) ∙ omega (arith, length_insert k (used_in σ i), length_run σ ok i inside, length_used σ ok i inside)

    -- insert finds no fault before it has a slot or a merge is due
    new_here : New σ k i
    new_here =
        record {
          judged = record { taken = record { asked = record { limits = ok.limits; key = wanted.small; chosen = wanted.chosen }; sound = rules.sound }; used_rises = used_rises i inside };
          not_running = λ q s. other_here (run_in_lem σ ok k i inside q s.near.from_base s.near.before_end s.is);
          not_waiting = λ j a h e. other_here (slot_in σ ok k i inside j h e);
        }

    -- nor after
    ready_here : (entry_in σ i).held + 1 ≡ σ.b → Ready σ k i
    ready_here full = record { rising = record { due = record { new = new_here; full = full }; rises = list_rises }; later = λ j a h f. f (passes j h) }

  -- what insert finds new, the plain list does not have
  wanted_by : {i : ℕ} → New σ k i → Wanted σ k i
  wanted_by {i} w =
      record {
        small = w.judged.taken.asked.key;
        chosen = w.judged.taken.asked.chosen;
        other = missing_unread σ ok k (record { segment = i; taken = w.judged.taken; not_running = w.not_running; not_waiting = w.not_waiting });
      }

  due_by : {i : ℕ} → Full σ k i → Due σ k i
  due_by w = record { wanted = wanted_by w.new; full = w.full }

  by_answer : {a : Result Inserted Refusal} → Answers σ k a → Outcome σ k a
  by_answer (slotted {i} {j} w h p) =
      subst (λ (m : ℕ). Outcome σ k (Ok (Buffered i m))) (one_place k (used_in σ i) (place_of k (used_in σ i)) j (place_is k (used_in σ i)) p) (buffered (wanted_by w) h)
  by_answer (joined w h r) = merged (due_by w.rising.due) h r
  by_answer (refused_1 w) = absurd (w ok.limits)
  by_answer (refused_2 l h) = large h
  by_answer (refused_9_entry {i} a d) = absurd (d (ok.rules i a.chosen.inside).sound)
  by_answer (refused_9_buffer {i} t f) = absurd (f (used_rises i t.asked.chosen.inside))
  by_answer (refused_5_run j w) = present j.taken.asked.key (answer_read σ ok k (in_run w) tt)
  by_answer (refused_5_slot j w) = present j.taken.asked.key (answer_read σ ok k (in_buffer w) tt)
  by_answer (refused_9_merged {i} w f) = absurd (f (list_rises i (wanted_by w.new)))
  by_answer (refused_9_later {i} {j} w l) = absurd (l.holds (passes j l.below))
  by_answer (refused_6 w h) = no_keys (due_by w.rising.due) h
  by_answer (refused_7 w h r) = no_segments (due_by w.rising.due) h r

  -- On an accepted store insert's answer has one of these reasons.
  pub outcome : Outcome σ k (insert_of σ k)
  outcome = by_answer (answers σ k)

  -- ---- and so, refusal by refusal

  by_says : {a : Result Inserted Refusal} → Outcome σ k a → Says σ k a
  by_says (large h) = h
  by_says (present h r) = r
  by_says (buffered w r) = w
  by_says (no_keys {i} d h) = record { segment = i; due = d; over = h }
  by_says (no_segments {i} d h r) = record { segment = i; due = d; over = r }
  by_says (merged d h r) = d

  -- Every answer says what it should; 1, 9 and the refusals of other calls are not given.
  pub says : Says σ k (insert_of σ k)
  says = by_says outcome

  by_present : {a : Result Inserted Refusal} → Outcome σ k a → In k (reads σ) → a ≡ Err Present
  by_present (large h) r = absurd (omega (arith, h, rising_key k (reads σ) (reads_rise σ ok) r))
  by_present (present h r) g = refl
  by_present (buffered w h) r = absurd (w.other r)
  by_present (no_keys d h) r = absurd (d.wanted.other r)
  by_present (no_segments d h g) r = absurd (d.wanted.other r)
  by_present (merged d h g) r = absurd (d.wanted.other r)

  -- 2 is given exactly where k is no key.
  pub large_refused : NoKey k → insert_of σ k ≡ Err (LargeKey (record { 0 = 0 }))
  large_refused h = sym (only σ k (Err (LargeKey (record { 0 = 0 }))) (refused_2 ok.limits h))

  pub refused_large : {p : Pos} → insert_of σ k ≡ Err (LargeKey p) → NoKey k
  refused_large e = subst (λ (a : Result Inserted Refusal). Says σ k a) e says

  -- "already there": 5 is given exactly where k is one of the reads.
  pub read_refused : In k (reads σ) → insert_of σ k ≡ Err Present
  read_refused r = by_present outcome r

  pub refused_read : insert_of σ k ≡ Err Present → In k (reads σ)
  refused_read e = subst (λ (a : Result Inserted Refusal). Says σ k a) e says

  -- It says neither that the store is wrong (9) nor that it is out of its limits (1).
  pub never_wrong : {j : ℕ} → insert_of σ k ≡ Err (StoreWrong j) → ⊥
  never_wrong e = subst (λ (a : Result Inserted Refusal). Says σ k a) e says

  pub never_limits : insert_of σ k ≡ Err OutOfLimits → ⊥
  never_limits e = subst (λ (a : Result Inserted Refusal). Says σ k a) e says

  -- ---- and no other answer has such a reason

  ready_by : {i : ℕ} → Due σ k i → Ready σ k i
  ready_by {i} d = ready_here i d.wanted d.full

  -- An answer that has such a reason is insert's.
  pub outcome_only : {a : Result Inserted Refusal} → Outcome σ k a → a ≡ insert_of σ k
  outcome_only (large h) = sym (large_refused h)
  outcome_only (present h r) = sym (read_refused r)
  outcome_only (buffered {i} w h) = only σ k _ (slotted (new_here i w) h (place_is k (used_in σ i)))
  outcome_only (no_keys d h) = only σ k _ (refused_6 (ready_by d) h)
  outcome_only (no_segments d h r) = only σ k _ (refused_7 (ready_by d) h r)
  outcome_only (merged d h r) = only σ k _ (joined (ready_by d) h r)
