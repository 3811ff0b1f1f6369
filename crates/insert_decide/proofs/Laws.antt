-- The cases of the functions that decide an insert.
-- Assumes nothing.
use Rattle.std.specs.Prelude.{Option, Some, None, Result, Ok, Err}
use Rattle.terms.specs.declared.Refusal.{Refusal}
use mathlib.Core.Path.{◌≡◌, refl, sym, ap, ◌∙◌}
use mathlib.Core.Bool.{Bool, true, false}
use mathlib.Core.List.{List}
use Prim.Native.Nat.{ℕ, suc, ◌+◌, ◌-◌, ◌*◌, ◌≤◌, ◌<◌}
use native.Mathlib.Numerals.{add-one}
use native.Mathlib.Omega.{arith}
use lib.Dec.{ltb}
use lib.ListN.{get_or}
use borrow.Author.Tests.{le-leb, lt-leb}
use Rattle.terms.specs.Limits.{key_of, in_use_of}
use Rattle.terms.specs.Keys.{is_key, key_given}
use Rattle.terms.specs.declared.Key.{Key}
use Rattle.terms.specs.declared.Entry.{Entry}
use Rattle.terms.specs.declared.Sizes.{Sizes}
use Rattle.terms.specs.declared.Refusal.TheVariants.{Limits as OutOfLimits, LargeKey, KeyRoom, SegmentRoom, StoreWrong}
use Rattle.terms.proofs.Keys.{key_true}
use Rattle.terms.proofs.Given.{given_true, given_false, given_refusal, given_is}
use Rattle.table.specs.Store.{Store, store_of, sizes_in, in_use}
use Rattle.table.specs.Limits.{Limits, limited_of, within_of, key_room, segment_room}
use Rattle.table.specs.Entries.{Row, run_of, used_of}
use Rattle.table.proofs.Limits.{within_true, within_false, within_refusal, within_limits}
use Rattle.choose.specs.Picked.{picked_of, picked_in, Picks}
use Rattle.choose.proofs.Laws.{picks}
use Rattle.segment.specs.Lent.{RunHeld, UsedHeld}
use Rattle.segment.proofs.Laws.{run_held, used_held, lent}
use Rattle.scan.specs.Scan.{fails_of}
use Rattle.scan.proofs.Laws.{fail_here, fail_on, fail_end}
use Rattle.insert_decide.specs.declared.Weighed.{Weighed}
use Rattle.insert_decide.specs.declared.Weighed.TheVariants.{Slot, Pieces}
use Rattle.insert_decide.specs.Weighed.{weighed_of, Weighable}
use Rattle.insert_decide.proofs.Told.{pieces_told}
use Rattle.insert_decide.specs.declared.Decided.{Decided}
use Rattle.insert_decide.specs.declared.Decided.TheVariants.{Put, Merge}
use Rattle.insert_decide.specs.Decided.{passes_of, later_of, roomed_of, room_for, merge_for, weighed_for, sound_for, picked_for, decided_of, Cut}

-- ---- a later entry, and the lowest that is wrong

module _ (b n : ℕ) (table : List ℕ) (j : ℕ) where
  pub passes_base : get_or table (5 * j + 1) 0 ≤ n → ltb (get_or table (5 * j + 4) 0) b ≡ passes_of b n table j
  unfolding passes_of
  passes_base h = simp (le-leb _ _ h)

  pub passes_not : n < get_or table (5 * j + 1) 0 → false ≡ passes_of b n table j
  unfolding passes_of
  passes_not h = simp (lt-leb _ _ h)

pub ruleset passes_cases = (passes_base, passes_not)

module _ (b n s : ℕ) (table : List ℕ) (i : ℕ) where
  pub later_start : later_of b n s table i ≡ fails_of (passes_of b n table) (i + 1) (s - (i + 1))
  unfolding later_of
  later_start = rw (add-one i) refl

  module _ (j : ℕ) (so_far : later_of b n s table i ≡ fails_of (passes_of b n table) j (s - j)) where
    pub later_here : {r : Bool} → j < s → r ≡ passes_of b n table j → r ≡ false → Some j ≡ later_of b n s table i
    unfolding later_of
    later_here h is q = sym (fail_here (passes_of b n table) (suc i) s j so_far h is q)

    pub later_on : {r : Bool} → j < s → r ≡ passes_of b n table j → r ≡ true → later_of b n s table i ≡ fails_of (passes_of b n table) (j + 1) (s - (j + 1))
    unfolding later_of
    later_on h is q = fail_on (passes_of b n table) (suc i) s j so_far h is q

    pub later_end : s ≤ j → None ≡ later_of b n s table i
    unfolding later_of
    later_end h = sym (fail_end (passes_of b n table) (suc i) s j so_far h)

pub ruleset later_cases = (later_start, later_here, later_on, later_end)

-- ---- a merge is due

module _ (z : Sizes) (keys table buffers : List ℕ) (i t : ℕ) (due : Cut (store_of z keys table buffers) i t) where
  pub later_asks : Row table z.s i
  later_asks = omega (arith, due)

module _ (σ : Store) (i : ℕ) (x : Entry) (t : ℕ) {f : Option ℕ} (is : f ≡ later_of σ.b σ.n σ.s σ.table i) where
  pub later_wrong : {j : ℕ} → f ≡ Some j → Err (StoreWrong j) ≡ merge_for σ i x t
  unfolding merge_for
  later_wrong q = cc

  module _ (fine : f ≡ None) {room : ℕ} (keyed : room ≡ key_room σ.keys) where
    pub keys_no : room < σ.n + σ.b → Err KeyRoom ≡ merge_for σ i x t
    unfolding merge_for room_for
    keys_no h = let g : key_room σ.keys < σ.n + σ.b = omega (arith, keyed) in simp (sym is ∙ fine, lt-leb _ _ g)

    module _ (enough : σ.n + σ.b ≤ room) {rows : ℕ} (roomed : rows ≡ segment_room σ.b σ.table σ.buffers) where
      pub rows_no : rows < σ.s - 1 + t → Err SegmentRoom ≡ merge_for σ i x t
      unfolding merge_for room_for roomed_of
      rows_no h =
          let g : σ.n + σ.b ≤ key_room σ.keys = omega (arith, keyed) in
          let r : segment_room σ.b σ.table σ.buffers < σ.s - 1 + t = omega (arith, roomed) in
          simp (sym is ∙ fine, le-leb _ _ g, lt-leb _ _ r)

      pub rows_yes : σ.s - 1 + t ≤ rows → Ok (Merge i x t) ≡ merge_for σ i x t
      unfolding merge_for room_for roomed_of
      rows_yes h =
          let g : σ.n + σ.b ≤ key_room σ.keys = omega (arith, keyed) in
          let r : σ.s - 1 + t ≤ segment_room σ.b σ.table σ.buffers = omega (arith, roomed) in
          simp (sym is ∙ fine, le-leb _ _ g, le-leb _ _ r)

pub ruleset due_cases = (later_asks, later_wrong, keys_no, rows_no, rows_yes)

-- ---- the whole answer: what each step refuses is what the call answers

module _ (σ : Store) (k : ℕ) where
  pub limits_refused : limited_of σ ≡ false → Err OutOfLimits ≡ decided_of σ k
  unfolding decided_of
  limits_refused l = simp l

  module _ (limited : limited_of σ ≡ true) where
    pub key_refused : is_key k ≡ false → Err (LargeKey (record { 0 = 0 })) ≡ decided_of σ k
    unfolding decided_of
    key_refused none = simp (limited, none)

    module _ (small : is_key k ≡ true) where
      pub picks_on : picked_for σ k (picked_in σ k) ≡ decided_of σ k
      unfolding decided_of
      picks_on = simp (limited, small)

module _ (σ : Store) (k : ℕ) where
  module _ {a : Result Decided Refusal} {r : Refusal} (passed : a ≡ Err r) where
    pub unlimited : Err r ≡ within_of σ → a ≡ decided_of σ k
    unlimited h = passed ∙ ap Err (within_refusal σ h) ∙ limits_refused σ k (within_false σ h)

    pub keyless : Ok tt ≡ within_of σ → Err r ≡ key_given k → a ≡ decided_of σ k
    keyless w h = passed ∙ ap Err (given_refusal k h) ∙ key_refused σ k (within_true σ w) (given_false k h)

  module _ (within : Ok tt ≡ within_of σ) {key : Key} (given : Ok key ≡ key_given k) where
    picked_on : {g : Result (ℕ × Entry) Refusal} → g ≡ picked_of (sizes_in σ) σ.table key.0 → picked_for σ k g ≡ decided_of σ k
    picked_on {g} h =
        let s : key ≡ key_of k = given_is k given in
        let e : g ≡ picked_in σ k = rw s at h in
        ap (picked_for σ k) e ∙ picks_on σ k (within_true σ within) (given_true k given)

    pub unpicked : {a : Result Decided Refusal} {r : Refusal} → a ≡ Err r → Err r ≡ picked_of (sizes_in σ) σ.table key.0 → a ≡ decided_of σ k
    unpicked passed h = passed ∙ picked_on h

    module _ {i : ℕ} {x : Entry} (picked : Ok (i, x) ≡ picked_of (sizes_in σ) σ.table key.0) {e : ℕ} {run used : List ℕ}
        (bound : e ≡ in_use σ) (r : run ≡ run_of σ.keys x) (u : used ≡ used_of σ.b σ.buffers i x.held) where
      weighed_on : {w : Result Weighed Refusal} → w ≡ weighed_of i e σ.b x run used key → weighed_for σ i x w ≡ decided_of σ k
      unfolding sound_for
      weighed_on {w} h =
          let s : key ≡ key_of k = given_is k given in
          let q : w ≡ weighed_of i (in_use σ) σ.b x (run_of σ.keys x) (used_of σ.b σ.buffers i x.held) (key_of k) = cc in
          ap (weighed_for σ i x) q ∙ picked_on picked

      pub unweighed : {a : Result Decided Refusal} {f : Refusal} → a ≡ Err f → Err f ≡ weighed_of i e σ.b x run used key → a ≡ decided_of σ k
      unweighed passed h = passed ∙ weighed_on h

      module _ {w : Weighed} (weighed : Ok w ≡ weighed_of i e σ.b x run used key) where
        pub decided_slot : {p : ℕ} → w ≡ Slot p → Ok (Put i x p) ≡ decided_of σ k
        decided_slot q = weighed_on (ap Ok (sym q) ∙ weighed)

        pub decided_merge : {t : ℕ} {a : Result Decided Refusal} → w ≡ Pieces t → a ≡ merge_for σ i x t → a ≡ decided_of σ k
        decided_merge q m = m ∙ weighed_on (ap Ok (sym q) ∙ weighed)

-- what the calls ask for: the sizes and the slices are variables of their own, so that a goal which shows only some of them tells them
module _ (z : Sizes) (keys table buffers : List ℕ) (within : Ok tt ≡ within_of (store_of z keys table buffers)) where
  limits : Limits (store_of z keys table buffers)
  limits = within_limits (store_of z keys table buffers) within

  pub pick_asks : Row table z.s 0
  pick_asks = omega (arith, limits)

  module _ (k : ℕ) {i : ℕ} {x : Entry} (picked : Ok (i, x) ≡ picked_of z table k) where
    p : Picks z table k i x
    p = picks z table k limits.s_least picked refl

    pub run_asks : RunHeld keys x
    run_asks = run_held z keys table buffers limits i x p.inside p.sound

    pub used_asks : UsedHeld z.b buffers i x
    used_asks = used_held z keys table buffers limits i x p.inside p.sound

    module _ (j : ℕ) {key : Key} (given : Ok key ≡ key_given j) {e : ℕ} {run used : List ℕ} (bound : e ≡ in_use_of z) (r : run ≡ run_of keys x) (u : used ≡ used_of z.b buffers i x.held) where
      pub weigh_asks : Weighable e z.b x run used key
      weigh_asks =
          record {
            lent = lent z keys table buffers limits i x p.inside p.sound r u;
            key_small = let s : key ≡ key_of j = given_is j given in rw s (key_true j (given_true j given));
            e_limit = omega (arith, bound, limits.e_limit);
            b_limit = limits.b_limit;
            held_below = p.sound.held_below;
          }

      pub cut_asks : {w : Weighed} {t : ℕ} → Ok w ≡ weighed_of i e z.b x run used key → w ≡ Pieces t → Cut (store_of z keys table buffers) i t
      cut_asks is at = record { limits = limits; inside = p.inside; few = (pieces_told i e z.b x run used key weigh_asks (ap Ok (sym at) ∙ is)).few }

pub ruleset decide_cases = (pick_asks, run_asks, used_asks, weigh_asks, cut_asks, decided_slot, decided_merge)
