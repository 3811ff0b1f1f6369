-- Demand 2, "what is present, absent .. is what a plain sorted list .. says", and demand 3, "so every lookup over it is right": over an accepted
-- store lookup finds exactly the keys that the store reads as, at a place that holds them.
-- Assumes nothing.
use Rattle.std.specs.Prelude.{Result, Ok, Err}
use mathlib.Core.Path.{◌≡◌, refl, sym, ap, subst, ◌∙◌}
use mathlib.Core.Logic.{⊎_elim}
use Prim.Native.Nat.{ℕ, ◌+◌, ◌-◌, ◌*◌, ◌≤◌, ◌<◌}
use native.Mathlib.Omega.{arith}
use lib.ListN.{get_or}
use Rattle.lists.specs.Rising.{In}
use Rattle.lists.proofs.Rising.{Place, in_place, in_at}
use Rattle.lists.proofs.Merging.{in_merge, in_merge_left, in_merge_right}
use Rattle.terms.specs.Limits.{key_of}
use Rattle.terms.specs.Keys.{IsKey}
use Rattle.terms.specs.declared.Refusal.{Refusal}
use Rattle.terms.proofs.Keys.{rising_key}
use Rattle.table.specs.Store.{Store, in_use}
use Rattle.table.specs.Entries.{entry_in, run_in, used_in}
use Rattle.table.specs.Reads.{merged_in, reads}
use Rattle.line.specs.Meaning.{Near}
use Rattle.answers.specs.declared.Looked.{Looked}
use Rattle.answers.specs.declared.Looked.TheVariants.{Absent}
use Rattle.lookup.specs.Lookup.{lookup_of}
use Rattle.lookup_laws.specs.Answers.{Stands, Waits, Missing, Answers, in_run, in_buffer, absent, refused_1, refused_2, refused_9}
use Rattle.lookup_laws.proofs.Meaning.{slot_at, answers}
use Rattle.judge.specs.Rules.{Accepted}
use Rattle.judge_laws.proofs.Bridge.{run_at}
use Rattle.judge_laws.proofs.Segments.{reads_rise}
use Rattle.judge_laws.proofs.Whereabouts.{read_where, where_read}
use Rattle.theory_shown.specs.Found.{Finds, Holds}
use Rattle.theory_shown.proofs.Views.{length_run, length_used}

-- On any store, the place that lookup names holds the key.
answer_holds : (σ : Store) (k : ℕ) {a : Result Looked Refusal} → Answers σ k a → Finds a → Holds σ k a
answer_holds σ k (in_run {p} w) f = record { inside = omega (arith, w.here.near, w.taken.sound); is = w.here.is }
answer_holds σ k (in_buffer {i} {j} w) f = record { segment = w.taken.asked.chosen.inside; used = w.lowest.below; is = w.lowest.holds }
answer_holds σ k (absent w) f = absurd f
answer_holds σ k (refused_1 w) f = absurd f
answer_holds σ k (refused_2 l h) f = absurd f
answer_holds σ k (refused_9 a d) f = absurd f

pub found_holds : (σ : Store) (k : ℕ) → Finds (lookup_of σ k) → Holds σ k (lookup_of σ k)
found_holds σ k f = answer_holds σ k (answers σ k) f

module _ (σ : Store) (ok : Accepted σ) (k : ℕ) where
  module _ (i : ℕ) (inside : i < σ.s) where
    -- a position of the run, and a used slot, are among the segment's reads
    pub run_in_lem : (p : ℕ) → (entry_in σ i).base.0 ≤ p → p < (entry_in σ i).end.0 → get_or σ.keys p 0 ≡ k → In k (merged_in σ i)
    run_in_lem p a z e =
        let q : ℕ = p - (entry_in σ i).base.0 in
        let s : (entry_in σ i).base.0 + q ≡ p = omega arith in
        let v : get_or (run_in σ i) q 0 ≡ k = run_at σ i q (omega arith) ∙ ap (λ (m : ℕ). get_or σ.keys m 0) s ∙ e in
        in_merge_left k (run_in σ i) (used_in σ i) (subst (λ (m : ℕ). In m (run_in σ i)) v (in_at (run_in σ i) q (omega (arith, length_run σ ok i inside))))

    pub slot_in : (j : ℕ) → j < (entry_in σ i).held → get_or σ.buffers (i * σ.b + j) 0 ≡ k → In k (merged_in σ i)
    slot_in j h e =
        in_merge_right k (run_in σ i) (used_in σ i)
        (subst (λ (m : ℕ). In m (used_in σ i)) (slot_at σ k i j h ∙ e) (in_at (used_in σ i) j (omega (arith, length_used σ ok i inside))))

    -- and a read of the segment stands in its own window, or waits in a used slot
    in_window : In k (run_in σ i) → ((q : ℕ) → Stands σ k i q → ⊥) → ⊥
    in_window j other =
        let w : Place k (run_in σ i) = in_place k (run_in σ i) j in
        let l : w.place < (entry_in σ i).end.0 - (entry_in σ i).base.0 = omega (arith, w.inside, length_run σ ok i inside) in
        let p : ℕ = (entry_in σ i).base.0 + w.place in
        let e : get_or σ.keys p 0 ≡ k = sym (run_at σ i w.place l) ∙ w.is in
        let n : Near (in_use σ) (entry_in σ i) (key_of (get_or σ.keys p 0)) p = (ok.rules i inside).windows p (omega arith) (omega arith) in
        other p (record { near = subst (λ (m : ℕ). Near (in_use σ) (entry_in σ i) (key_of m) p) e n; is = e })

    in_slot : In k (used_in σ i) → ((q : ℕ) → 0 ≤ q → q < (entry_in σ i).held → Waits σ k i q → ⊥) → ⊥
    in_slot j other =
        let w : Place k (used_in σ i) = in_place k (used_in σ i) j in
        let l : w.place < (entry_in σ i).held = omega (arith, w.inside, length_used σ ok i inside) in
        other w.place (omega arith) l (sym (slot_at σ k i w.place l) ∙ w.is)

  -- an answer that names a place is of a key that is read
  pub answer_read : {a : Result Looked Refusal} → Answers σ k a → Finds a → In k (reads σ)
  answer_read (in_run {p} w) f =
      where_read σ ok k w.segment w.taken.asked.chosen
      (run_in_lem w.segment w.taken.asked.chosen.inside p w.here.near.from_base w.here.near.before_end w.here.is)
  answer_read (in_buffer {i} {j} w) f = where_read σ ok k i w.taken.asked.chosen (slot_in i w.taken.asked.chosen.inside j w.lowest.below w.lowest.holds)
  answer_read (absent w) f = absurd f
  answer_read (refused_1 w) f = absurd f
  answer_read (refused_2 l h) f = absurd f
  answer_read (refused_9 a d) f = absurd f

  pub missing_unread : Missing σ k → In k (reads σ) → ⊥
  missing_unread w r =
      let i : ℕ = w.segment in
      let inside : i < σ.s = w.taken.asked.chosen.inside in
      ⊎_elim (λ l. in_window i inside l w.not_running) (λ u. in_slot i inside u w.not_waiting)
      (in_merge k (run_in σ i) (used_in σ i) (read_where σ ok k i w.taken.asked.chosen r))

  read_key : In k (reads σ) → IsKey k
  read_key r = rising_key k (reads σ) (reads_rise σ ok) r

  answer_finds : {a : Result Looked Refusal} → Answers σ k a → In k (reads σ) → Finds a
  answer_finds (in_run w) r = tt
  answer_finds (in_buffer w) r = tt
  answer_finds (absent w) r = missing_unread w r
  answer_finds (refused_1 w) r = w ok.limits
  answer_finds (refused_2 l h) r = absurd (omega (arith, h, read_key r))
  answer_finds (refused_9 {i} a d) r = d (ok.rules i a.chosen.inside).sound

  -- A key that lookup finds is one of the reads.
  pub found_read : Finds (lookup_of σ k) → In k (reads σ)
  found_read f = answer_read (answers σ k) f

  -- A key that is one of the reads is found, at a place that holds it.
  pub read_found : In k (reads σ) → Finds (lookup_of σ k)
  read_found r = answer_finds (answers σ k) r

  pub read_held : In k (reads σ) → Holds σ k (lookup_of σ k)
  read_held r = found_holds σ k (read_found r)

  pub absent_unread : lookup_of σ k ≡ Ok Absent → In k (reads σ) → ⊥
  absent_unread e r = subst Finds e (read_found r)

  answer_absent : {a : Result Looked Refusal} → Answers σ k a → IsKey k → (In k (reads σ) → ⊥) → a ≡ Ok Absent
  answer_absent (in_run w) small other = absurd (other (answer_read (in_run w) tt))
  answer_absent (in_buffer w) small other = absurd (other (answer_read (in_buffer w) tt))
  answer_absent (absent w) small other = refl
  answer_absent (refused_1 w) small other = absurd (w ok.limits)
  answer_absent (refused_2 l h) small other = absurd (omega (arith, h))
  answer_absent (refused_9 {i} a d) small other = absurd (d (ok.rules i a.chosen.inside).sound)

  -- Of any other key it says that it is absent.
  pub unread_absent : IsKey k → (In k (reads σ) → ⊥) → lookup_of σ k ≡ Ok Absent
  unread_absent small other = answer_absent (answers σ k) small other

  answer_stands : {a : Result Looked Refusal} {r : Refusal} → Answers σ k a → IsKey k → a ≡ Err r → ⊥
  answer_stands (in_run w) small e = absurd (let z : ◌≡◌ {A = ℕ} 0 1 = cc in omega arith)
  answer_stands (in_buffer w) small e = absurd (let z : ◌≡◌ {A = ℕ} 0 1 = cc in omega arith)
  answer_stands (absent w) small e = absurd (let z : ◌≡◌ {A = ℕ} 0 1 = cc in omega arith)
  answer_stands (refused_1 w) small e = w ok.limits
  answer_stands (refused_2 l h) small e = omega (arith, h)
  answer_stands (refused_9 {i} a d) small e = d (ok.rules i a.chosen.inside).sound

  -- It refuses no key.
  pub never_refused : (r : Refusal) → IsKey k → lookup_of σ k ≡ Err r → ⊥
  never_refused r small e = answer_stands (answers σ k) small e
