-- Demand 2, "From a store the check accepts, if only our inserts write to it, what is present, absent, listed or already there is what a plain sorted
-- list of all reads loaded and taken in says." For any list of keys given to insert, each taken in or refused.
-- Assumes nothing.
use Rattle.std.specs.Prelude.{Result, Ok, Err}
use Rattle.terms.specs.declared.Refusal.{Refusal}
use mathlib.Core.Path.{◌≡◌, refl, sym, ap, subst, ◌∙◌}
use mathlib.Core.List.{List, [], ◌∷◌}
use mathlib.Core.Logic.{◌⊎◌, inl, inr, ⊎_elim}
use Prim.Native.Nat.{ℕ, ◌≤◌}
use Rattle.lists.specs.Rising.{In}
use Rattle.lists.specs.Merge.{insert_sorted}
use Rattle.lists.specs.Between.{between}
use Rattle.lists.proofs.Rising.{one_rising}
use Rattle.lists.proofs.Merging.{insert_in, in_insert, in_insert_new}
use Rattle.terms.specs.Keys.{IsKey, RisingKeys}
use Rattle.terms.specs.declared.Refusal.TheVariants.{Present}
use Rattle.table.specs.Store.{Store}
use Rattle.table.specs.Reads.{reads}
use Rattle.answers.specs.declared.Looked.TheVariants.{Absent}
use Rattle.lookup.specs.Lookup.{lookup_of}
use Rattle.judge.specs.Rules.{Accepted}
use Rattle.judge.specs.Check.{check_of}
use Rattle.judge_laws.proofs.Meaning.{accepted_good}
use Rattle.judge_laws.proofs.Segments.{reads_rise}
use Rattle.choose.specs.Stretch.{keys_from}
use Rattle.theory_stretch.proofs.Stretch.{range_is}
use Rattle.theory_shown.specs.Found.{Finds, Holds}
use Rattle.theory_shown.proofs.Found.{found_read, read_held, unread_absent, absent_unread}
use Rattle.answers.specs.declared.Inserted.{Inserted}
use Rattle.answers.specs.declared.Inserted.TheVariants.{Buffered, Merged}
use Rattle.insert.specs.Insert.{insert_of}
use Rattle.theory_kept.specs.After.{after_one, after, list_by, taken_by, taken, insert_all}
use Rattle.theory_kept.proofs.Outcome.{read_refused, refused_read}
use Rattle.theory_kept.proofs.Kept.{insert_accepted, insert_reads}

-- ---- the plain list

insert_first : (a : Result Inserted Refusal) (k : ℕ) (ks l : List ℕ) → insert_all ks (list_by a k l) ≡ insert_all (taken_by a k ks) l
unfolding insert_all
insert_first (Ok (Buffered i j)) k ks l = refl
insert_first (Ok (Merged i t n s)) k ks l = refl
insert_first (Err r) k ks l = refl

-- what is in it is what was in the list, or is one of the keys put in
pub all_in : (j : ℕ) (ks l : List ℕ) → In j (insert_all ks l) → In j l ⊎ In j ks
unfolding insert_all
all_in j [] l i = inl i
all_in j (k ∷ ks) l i = ⊎_elim (λ a. ⊎_elim (λ e. inr (inl e)) (λ b. inl b) (insert_in j k l a)) (λ c. inr (inr c)) (all_in j ks (insert_sorted k l) i)

pub in_all_first : (j : ℕ) (ks l : List ℕ) → In j l → In j (insert_all ks l)
unfolding insert_all
in_all_first j [] l i = i
in_all_first j (k ∷ ks) l i = in_all_first j ks (insert_sorted k l) (in_insert j k l i)

pub in_all_new : (j : ℕ) (ks l : List ℕ) → In j ks → In j (insert_all ks l)
unfolding insert_all
in_all_new j [] l i = absurd i
in_all_new j (k ∷ ks) l i =
    ⊎_elim (λ e. in_all_first j ks (insert_sorted k l) (subst (λ (m : ℕ). In m (insert_sorted k l)) e (in_insert_new k l))) (λ b. in_all_new j ks (insert_sorted k l) b) i

-- ---- any list of inserts

pub after_accepted : (ks : List ℕ) (σ : Store) → Accepted σ → Accepted (after σ ks)
unfolding after
after_accepted [] σ ok = ok
after_accepted (k ∷ ks) σ ok = after_accepted ks (after_one σ k) (insert_accepted σ ok k)

pub after_reads : (ks : List ℕ) (σ : Store) → Accepted σ → reads (after σ ks) ≡ insert_all (taken σ ks) (reads σ)
unfolding after taken insert_all
after_reads [] σ ok = refl
after_reads (k ∷ ks) σ ok =
    after_reads ks (after_one σ k) (insert_accepted σ ok k) ∙ ap (insert_all (taken (after_one σ k) ks)) (insert_reads σ ok k)
    ∙ insert_first (insert_of σ k) k (taken (after_one σ k) ks) (reads σ)

module _ (σ : Store) (ok : Accepted σ) (ks : List ℕ) where
  -- the plain list: what the store had, and the keys taken in, each in its place
  abbrev plain : List ℕ
  plain = insert_all (taken σ ks) (reads σ)

  -- the store after them all, which is accepted, and reads as that list
  abbrev τ : Store
  τ = after σ ks

  fine : Accepted τ
  fine = after_accepted ks σ ok

  -- The check says yes to what any inserts leave of an accepted store.
  pub inserts_good : check_of τ ≡ Ok tt
  inserts_good = accepted_good τ fine

  to_plain : (k : ℕ) → In k (reads τ) → In k plain
  to_plain k = subst (λ (l : List ℕ). In k l) (after_reads ks σ ok)

  from_plain : (k : ℕ) → In k plain → In k (reads τ)
  from_plain k = subst (λ (l : List ℕ). In k l) (sym (after_reads ks σ ok))

  -- The plain list strictly rises, and its members are those of the first list and the keys taken in.
  pub plain_rises : RisingKeys plain
  plain_rises = subst (λ (l : List ℕ). RisingKeys l) (after_reads ks σ ok) (reads_rise τ fine)

  pub plain_has : (k : ℕ) → In k plain → In k (reads σ) ⊎ In k (taken σ ks)
  plain_has k i = all_in k (taken σ ks) (reads σ) i

  pub has_plain : (k : ℕ) → In k (reads σ) ⊎ In k (taken σ ks) → In k plain
  has_plain k i = ⊎_elim (λ a. in_all_first k (taken σ ks) (reads σ) a) (λ b. in_all_new k (taken σ ks) (reads σ) b) i

  -- There is no other such list: whatever strictly rising list has just these members is what the store reads as.
  pub plain_only : (l : List ℕ) → RisingKeys l → ((k : ℕ) → In k l → In k (reads σ) ⊎ In k (taken σ ks)) → ((k : ℕ) → In k (reads σ) ⊎ In k (taken σ ks) → In k l) → reads τ ≡ l
  plain_only l u f g =
      after_reads ks σ ok ∙ one_rising _ _ plain l plain_rises u (λ k i. g k (plain_has k i)) (λ k i. has_plain k (f k i))

  -- "present": what the plain list has is found, at a place that holds it, and nothing else is found.
  pub plain_found : (k : ℕ) → In k plain → Holds τ k (lookup_of τ k)
  plain_found k i = read_held τ fine k (from_plain k i)

  pub found_plain : (k : ℕ) → Finds (lookup_of τ k) → In k plain
  found_plain k f = to_plain k (found_read τ fine k f)

  -- "absent": of every other key lookup says so.
  pub plain_absent : (k : ℕ) → IsKey k → (In k plain → ⊥) → lookup_of τ k ≡ Ok Absent
  plain_absent k small other = unread_absent τ fine k small (λ i. other (to_plain k i))

  pub absent_plain : (k : ℕ) → lookup_of τ k ≡ Ok Absent → In k plain → ⊥
  absent_plain k e i = absent_unread τ fine k e (from_plain k i)

  -- "already there": insert refuses by 5 exactly the keys of the plain list.
  pub plain_refused : (k : ℕ) → In k plain → insert_of τ k ≡ Err Present
  plain_refused k i = read_refused τ fine k (from_plain k i)

  pub refused_plain : (k : ℕ) → insert_of τ k ≡ Err Present → In k plain
  refused_plain k e = to_plain k (refused_read τ fine k e)

  -- "listed": the keys from low to high of the stretch that a range looks at are those of the plain list.
  pub plain_listed : (low high : ℕ) → low ≤ high → keys_from τ low high ≡ between low high plain
  plain_listed low high order = range_is τ fine low high order ∙ ap (between low high) (after_reads ks σ ok)
