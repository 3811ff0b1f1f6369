-- What a decision says that is no refusal: all that the writing of it asks. And the cases of the call.
-- Assumes nothing.
use Rattle.std.specs.Prelude.{Option, Some, None, Result, Ok, Err}
use mathlib.Core.Path.{◌≡◌, refl, sym, ap, ◌∙◌}
use mathlib.Core.Bool.{true}
use mathlib.Core.List.{List}
use Prim.Native.Nat.{ℕ, suc, ◌+◌, ◌-◌, ◌*◌, ◌≤◌, ◌<◌}
use native.Mathlib.Omega.{arith}
use mir.Syntax.{w64}
use mir.Val.{Fits}
use lib.Dec.{ltb, leb}
use lib.ListN.{get_or}
use borrow.Author.Tests.{leb-true, ltb-true, le-leb, lt-ltb}
use Rattle.lists.proofs.Tests.{pick_cases, both_true, true_both}
use Rattle.terms.specs.Limits.{key_of}
use Rattle.terms.specs.Keys.{is_key, IsKey}
use Rattle.terms.specs.declared.Entry.{Entry}
use Rattle.terms.specs.declared.Sizes.{Sizes}
use Rattle.terms.specs.declared.Refusal.{Refusal}
use Rattle.table.specs.Store.{Store, store_of, sizes_in, in_use}
use Rattle.table.specs.Limits.{Limits, limited_of, key_room, segment_room}
use Rattle.table.specs.Entries.{entry_of, entry_in, run_of, used_of}
use Rattle.table.specs.Damaged.{Sound}
use Rattle.table.proofs.Limits.{limited_true, slots_fit}
use Rattle.choose.specs.Picked.{picked_in, Told as Picks}
use Rattle.choose.proofs.Laws.{told}
use Rattle.segment.proofs.Laws.{slot_inside, lent}
use Rattle.scan.specs.Scan.{none_of}
use Rattle.scan.proofs.Meaning.{passes}
use Rattle.insert_decide.specs.declared.Weighed.{Weighed}
use Rattle.insert_decide.specs.declared.Weighed.TheVariants.{Slot, Pieces}
use Rattle.insert_decide.specs.Weighed.{weighed_of, Parted, Told}
use Rattle.insert_decide.proofs.Told.{weighed_told}
use Rattle.insert_write.specs.Merged.{Passes}
use Rattle.insert_write.specs.Write.{Holding, Mergeable}
use Rattle.insert_decide.specs.declared.Decided.{Decided}
use Rattle.insert_decide.specs.declared.Decided.TheVariants.{Put, Merge}
use Rattle.insert_decide.specs.Decided.{passes_of, later_of, roomed_of, room_for, later_for, merge_for, weighed_for, sound_for, picked_for, decided_of}
use Rattle.answers.specs.declared.Inserted.{Inserted}
use Rattle.answers.specs.declared.Inserted.TheVariants.{Buffered, Merged}
use Rattle.insert.specs.Insert.{insert_of}

-- ---- a later entry: the test and what it says

module _ (σ : Store) (j : ℕ) where
  pub passes_true : passes_of σ.b σ.n σ.table j ≡ true → Passes σ j
  unfolding passes_of entry_of
  passes_true h =
      let t : _ = both_true (leb (get_or σ.table (5 * j + 1) 0) σ.n) (ltb (get_or σ.table (5 * j + 4) 0) σ.b) h in
      record { base = leb-true _ _ t.0; held = ltb-true _ _ t.1 }

  pub true_passes : Passes σ j → passes_of σ.b σ.n σ.table j ≡ true
  unfolding passes_of entry_of
  true_passes w = true_both (leb (get_or σ.table (5 * j + 1) 0) σ.n) (ltb (get_or σ.table (5 * j + 4) 0) σ.b) (le-leb _ _ w.base) (lt-ltb _ _ w.held)

pub all_pass : (σ : Store) (i : ℕ) → later_of σ.b σ.n σ.s σ.table i ≡ None → (j : ℕ) → i < j → j < σ.s → Passes σ j
unfolding later_of
all_pass σ i none j above below =
    passes_true σ j (passes (passes_of σ.b σ.n σ.table) (suc i) (σ.s - suc i) (ap none_of none) j above (omega arith))

-- ---- what was decided

abbrev pub Due : Store → ℕ → Result Decided Refusal → Type 0
Due σ k (Ok (Put i x slot)) = Holding (sizes_in σ) σ.table σ.buffers i x slot k
Due σ k (Ok (Merge i x t)) = Mergeable σ i x t k
Due σ k (Err r) = Unit

module _ (σ : Store) (k i : ℕ) (x : Entry) (limits : Limits σ) (small : IsKey k) (inside : i < σ.s) (entry : x ≡ entry_in σ i) (sound : Sound σ.b σ.n x) where
  abbrev run : List ℕ
  run = run_of σ.keys x

  abbrev used : List ℕ
  used = used_of σ.b σ.buffers i x.held

  due_merge : (t : ℕ) → Parted (in_use σ) σ.b x run used (key_of k) t → Due σ k (merge_for σ i x t)
  unfolding merge_for room_for roomed_of
  due_merge t parted = go (later_of σ.b σ.n σ.s σ.table i) refl
    where
      go : (f : Option ℕ) → later_of σ.b σ.n σ.s σ.table i ≡ f → Due σ k (later_for f (room_for σ i x t))
      go (Some j) q = tt
      go None q =
          pick_cases (Due σ k) (leb (σ.n + σ.b) (key_room σ.keys)) _ _
          (λ u. pick_cases (Due σ k) (leb (σ.s - 1 + t) (segment_room σ.b σ.table σ.buffers)) _ _
          (λ v. record {
            limits = limits;
            inside = inside;
            entry = entry;
            sound = sound;
            full = parted.full;
            rising = parted.rising;
            pieces = parted.pieces;
            later = all_pass σ i q;
            room_for_keys = leb-true _ _ u;
            room_for_segments = leb-true _ _ v;
          })
          (λ v. tt))
          (λ u. tt)

  due_weighed : (a : Result Weighed Refusal) → Told (in_use σ) σ.b x run used (key_of k) a → Due σ k (weighed_for σ i x a)
  due_weighed (Err r) w = tt
  due_weighed (Ok (Slot p)) w =
      let slots : i * σ.b + (x.held + 1) ≤ σ.s * σ.b = slot_inside σ.b inside w.free in
      record {
        entry = entry;
        row = omega (arith, limits, inside);
        few = omega (arith, limits, sound);
        room = omega (arith, limits, slots);
        small = omega (arith, slots, slots_fit limits.s_limit limits.b_limit);
        place = w.place;
      }
  due_weighed (Ok (Pieces t)) w = due_merge t w

  due_sound : Due σ k (sound_for σ i x (key_of k))
  unfolding sound_for
  due_sound =
      due_weighed (weighed_of i (in_use σ) σ.b x run used (key_of k))
      (weighed_told i (in_use σ) σ.b x run used (key_of k)
      (record {
        lent = lent (sizes_in σ) σ.keys σ.table σ.buffers limits i x inside sound refl refl;
        key_small = small;
        e_limit = omega (arith, limits.e_limit);
        b_limit = limits.b_limit;
        held_below = sound.held_below;
      }))

due_picked : (σ : Store) (k : ℕ) → Limits σ → IsKey k → (g : Result (ℕ × Entry) Refusal) → Picks (sizes_in σ) σ.table k g → Due σ k (picked_for σ k g)
due_picked σ k limits small (Ok (i, x)) p = due_sound σ k i x limits small p.inside p.entry p.sound
due_picked σ k limits small (Err r) p = tt

pub due : (σ : Store) (k : ℕ) → Due σ k (decided_of σ k)
unfolding decided_of
due σ k =
    pick_cases (Due σ k) (limited_of σ) _ _
    (λ u. pick_cases (Due σ k) (is_key k) _ _
    (λ v. let l : Limits σ = limited_true σ u in due_picked σ k l (ltb-true _ _ v) (picked_in σ k) (told (sizes_in σ) σ.table k l.s_least))
    (λ v. tt))
    (λ u. tt)

-- ---- the cases of the call

module _ (z : Sizes) (keys table buffers : List ℕ) (k : ℕ) {d : Decided} (decided : Ok d ≡ decided_of (store_of z keys table buffers) k) where
  abbrev σ : Store
  σ = store_of z keys table buffers

  says : (v : Decided) → d ≡ v → Due σ k (Ok v)
  says v q = rw (sym decided ∙ ap Ok q) at (due σ k)

  module _ {i : ℕ} {x : Entry} {j : ℕ} (q : d ≡ Put i x j) where
    pub hold_asks : Holding z table buffers i x j k
    hold_asks = says (Put i x j) q

    pub put_answered : Ok (Buffered i j) ≡ insert_of (store_of z keys table buffers) k
    unfolding insert_of
    put_answered = cc

  module _ {i : ℕ} {x : Entry} {t : ℕ} (q : d ≡ Merge i x t) where
    pub join_asks : Mergeable (store_of z keys table buffers) i x t k
    join_asks = says (Merge i x t) q

    pub n_fits : Fits w64 (z.n + z.b)
    n_fits = record { fits = omega (arith, join_asks.limits) }

    pub s_some : 1 ≤ z.s
    s_some = join_asks.limits.s_least

    pub s_fits : Fits w64 (z.s - 1 + t)
    s_fits = record { fits = omega (arith, join_asks.room_for_segments) }

    pub merge_answered : Ok (Merged i t (z.n + z.b) (z.s - 1 + t)) ≡ insert_of (store_of z keys table buffers) k
    unfolding insert_of
    merge_answered = cc

pub ruleset insert_cases = (hold_asks, put_answered, join_asks, n_fits, s_some, s_fits, merge_answered)

-- a refusal is the call's answer
module _ (z : Sizes) (keys table buffers : List ℕ) (k : ℕ) {r : Refusal} {a : Result Inserted Refusal} (passed : a ≡ Err r) where
  pub refuse_answered : Err r ≡ decided_of (store_of z keys table buffers) k → a ≡ insert_of (store_of z keys table buffers) k
  unfolding insert_of
  refuse_answered q = cc
