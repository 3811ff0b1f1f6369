-- What lookup's parts ask for follows from the limits and from an entry that is not damaged; and the cases of each function.
-- Assumes nothing.
use Rattle.std.specs.Prelude.{Option, Some, None, Result, Ok, Err}
use Rattle.terms.specs.declared.Refusal.{Refusal}
use mathlib.Core.Path.{◌≡◌, refl, ap, ◌∙◌}
use mathlib.Core.Bool.{Bool, true, false}
use mathlib.Core.List.{List}
use Prim.Native.Nat.{ℕ, ◌+◌, ◌-◌, ◌≤◌}
use native.Mathlib.Omega.{arith}
use lib.ListN.{length}
use mir.Syntax.{w64}
use mir.Val.{Fits}
use Rattle.terms.specs.Limits.{key_of}
use Rattle.terms.specs.Keys.{is_key, key_given}
use Rattle.terms.proofs.Given.{given_true, given_false, given_refusal, given_is}
use Rattle.terms.specs.declared.Refusal.TheVariants.{Limits as OutOfLimits, LargeKey, StoreWrong}
use Rattle.terms.specs.declared.Key.{Key}
use Rattle.terms.specs.declared.Entry.{Entry}
use Rattle.terms.specs.declared.Sizes.{Sizes}
use Rattle.terms.proofs.Keys.{key_true}
use Rattle.table.specs.Store.{Store, store_of, sizes_in, in_use}
use Rattle.table.specs.Limits.{Limits, limited_of, within_of}
use Rattle.table.specs.Entries.{Row, run_of, used_of}
use Rattle.table.proofs.Limits.{within_true, within_false, within_refusal, within_limits}
use Rattle.choose.specs.Picked.{picked_of, picked_in, Picks}
use Rattle.choose.proofs.Laws.{picks}
use Rattle.segment.specs.Lent.{RunHeld, UsedHeld}
use Rattle.segment.proofs.Laws.{run_held, used_held, lent}
use Rattle.line.specs.declared.Places.{Places}
use Rattle.line.specs.Line.{reach_of}
use Rattle.line.proofs.Laws.{reach_inside}
use Rattle.scan.specs.Scan.{lowest_of}
use Rattle.scan.proofs.Part.{lowest_in}
use Rattle.answers.specs.declared.Looked.{Looked}
use Rattle.answers.specs.declared.Looked.TheVariants.{InRun, InBuffer, Absent}
use Rattle.lookup.specs.Lookup.{Asked, buffered_of, searched_of, picked_for, lookup_of}

-- What lookup's calls ask for. The sizes and the slices are variables of their own, so that a goal which shows only some of them tells them.
module _ (z : Sizes) (keys table buffers : List ℕ) (within : Ok tt ≡ within_of (store_of z keys table buffers)) where
  limits : Limits (store_of z keys table buffers)
  limits = within_limits (store_of z keys table buffers) within

  pub pick_asks : Row table z.s 0
  pick_asks = omega (arith, limits)

  module _ (k : ℕ) {i : ℕ} {x : Entry} (picked : Ok (i, x) ≡ picked_of z table k) where
    p : Picks z table k i x
    p = picks z table k limits.s_least picked refl

    pub run_asks : RunHeld keys x
    run_asks = run_held z keys table buffers limits i x p.inside p.sound

    pub used_asks : UsedHeld z.b buffers i x
    used_asks = used_held z keys table buffers limits i x p.inside p.sound

    pub segment_asks : {key : Key} {run used : List ℕ} → Ok key ≡ key_given key.0 → run ≡ run_of keys x → used ≡ used_of z.b buffers i x.held → Asked x run used key
    segment_asks {key} given r u =
        record { lent = lent z keys table buffers limits i x p.inside p.sound r u; key_small = key_true key.0 (given_true key.0 given) }

-- The cases of each function, over what its callees ensure and what its tests say.
module _ (i : ℕ) (used : List ℕ) (k : ℕ) {f : Option ℕ} (is : f ≡ lowest_of used 0 (length used - 0) k) where
  in_all : f ≡ lowest_of used 0 (length used) k
  in_all = let q : length used - 0 ≡ length used = omega arith in rw q at is

  pub slot_found : {j : ℕ} → f ≡ Some j → InBuffer i j ≡ buffered_of i used k
  unfolding buffered_of
  slot_found e = cc in_all

  pub slot_none : f ≡ None → Absent ≡ buffered_of i used k
  unfolding buffered_of
  slot_none e = cc in_all

module _ (e : ℕ) (x : Entry) (i : ℕ) (run used : List ℕ) (k : Key) {w : Places} (window : w ≡ reach_of e x k) where
  pub find_asks : Asked x run used k → w.to ≤ length run
  find_asks a = omega (arith, a, reach_inside e x k window)

  module _ {f : Option ℕ} (is : f ≡ lowest_of run w.from (w.to - w.from) k.0) where
    pub place_fits : {p : ℕ} → Asked x run used k → f ≡ Some p → Fits w64 (x.base.0 + p)
    place_fits {p} a at =
        let h : _ = lowest_in run w.from (w.to - w.from) k.0 is at in
        record { fits = omega (arith, a, reach_inside e x k window, h.from, h.below) }

    pub place_found : {p : ℕ} → f ≡ Some p → InRun (record { 0 = x.base.0 + p }) ≡ searched_of e x i run used k
    unfolding searched_of
    place_found q = cc

    pub place_none : {a : Looked} → f ≡ None → a ≡ buffered_of i used k.0 → a ≡ searched_of e x i run used k
    unfolding searched_of
    place_none q r = cc

-- What each step refuses is what the call answers, and so is what the search of the segment finds.
module _ (σ : Store) (k : ℕ) where
  module _ {a : Result Looked Refusal} {r : Refusal} (passed : a ≡ Err r) where
    pub unlimited : Err r ≡ within_of σ → a ≡ lookup_of σ k
    unfolding lookup_of
    unlimited h = simp (within_false σ h) (passed ∙ ap Err (within_refusal σ h))

    pub keyless : Ok tt ≡ within_of σ → Err r ≡ key_given k → a ≡ lookup_of σ k
    unfolding lookup_of
    keyless w h = simp (within_true σ w, given_false k h) (passed ∙ ap Err (given_refusal k h))

    pub unpicked : Ok tt ≡ within_of σ → {key : Key} → Ok key ≡ key_given k → Err r ≡ picked_of (sizes_in σ) σ.table key.0 → a ≡ lookup_of σ k
    unfolding lookup_of
    unpicked w {key} g h = let q : key ≡ key_of k = given_is k g in let e : Err r ≡ picked_in σ k = rw q at h in simp (within_true σ w, given_true k g) (passed ∙ ap (picked_for σ k) e)

  pub answered : Ok tt ≡ within_of σ → {key : Key} → Ok key ≡ key_given k → {i : ℕ} {x : Entry} → Ok (i, x) ≡ picked_of (sizes_in σ) σ.table key.0 → {a : Looked} {e : ℕ} {run used : List ℕ} → run ≡ run_of σ.keys x →
      used ≡ used_of σ.b σ.buffers i x.held → e ≡ in_use σ → a ≡ searched_of e x i run used key → Ok a ≡ lookup_of σ k
  unfolding lookup_of
  answered w {key} g {i} {x} h {a} p q u is =
      let s : key ≡ key_of k = given_is k g in
      let e : Ok (i, x) ≡ picked_in σ k = rw s at h in
      let f : a ≡ searched_of (in_use σ) x i (run_of σ.keys x) (used_of σ.b σ.buffers i x.held) (key_of k) = cc in
      simp (within_true σ w, given_true k g) (ap Ok f ∙ ap (picked_for σ k) e)

-- what answers the needs of each function
pub ruleset in_used_cases = (slot_found, slot_none)

pub ruleset in_segment_cases = (find_asks, place_fits, place_found, place_none)

pub ruleset lookup_cases = (pick_asks, run_asks, used_asks, segment_asks, answered)
