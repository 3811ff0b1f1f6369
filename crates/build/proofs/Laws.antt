-- The cases of build and of what it asks.
-- Assumes nothing.
use Rattle.std.specs.Prelude.{Option, Some, None, Result, Ok, Err}
use Rattle.std.specs.Prelude.{⊤}
use mathlib.Core.Path.{◌≡◌, refl, sym, ap, ◌∙◌}
use mathlib.Core.Bool.{Bool, true, false}
use mathlib.Core.List.{List}
use Prim.Native.Nat.{ℕ, ◌+◌, ◌-◌, ◌*◌, ◌/◌, ◌≤◌, ◌<◌}
use native.Mathlib.Nat.{le-div_iff_mul-le}
use native.Mathlib.Omega.{arith}
use lib.Dec.{leb, ltb}
use lib.ListN.{length, take}
use lib.Seq.{length-take-le}
use borrow.Author.Tests.{leb-true, le-leb, lt-ltb}
use Rattle.lists.proofs.Tests.{both_true, either}
use Rattle.terms.specs.Limits.{e_most, n_most}
use Rattle.terms.specs.declared.Refusal.{Refusal}
use Rattle.terms.specs.declared.Refusal.TheVariants.{Limits, SegmentRoom}
use Rattle.table.specs.Limits.{sized_of, segment_room}
use Rattle.table.proofs.Limits.{sized_true, true_sized, Holds, room_holds}
use Rattle.cone.specs.Rule.{cut}
use Rattle.cone.specs.Keys.{Cuttable}
use Rattle.cone.proofs.Cover.{few}
use Rattle.cutting.specs.Rows.{Writable}
use Rattle.build_keys.specs.Faults.{Good, fault_of, wrong_of, Held, HeldAt}
use Rattle.build_keys.proofs.Faults.{fault_lowest, all_good, good_up}
use Rattle.build.specs.Build.{takes_of, Takes, roomed_of, found_of, judged_of, answer_by, built_of, Roomable}

-- ---- the limits

module _ (e b n : ℕ) (keys : List ℕ) {s : Bool} (sized : s ≡ sized_of e b n) where
  pub takes_held : s ≡ true → leb n (length keys) ≡ takes_of e b n keys
  unfolding takes_of
  takes_held q = simp (sym sized ∙ q)

  pub takes_not : s ≡ false → s ≡ takes_of e b n keys
  unfolding takes_of
  takes_not q = simp (sym sized ∙ q) q

pub ruleset takes_cases = (takes_held, takes_not)

pub takes_true : (e b n : ℕ) (keys : List ℕ) → takes_of e b n keys ≡ true → Takes e b n keys
unfolding takes_of
takes_true e b n keys h =
    let t : (sized_of e b n ≡ true) × (leb n (length keys) ≡ true) = both_true (sized_of e b n) (leb n (length keys)) h in
    record { sized = sized_true e b n t.0; held = leb-true _ _ t.1 }

pub true_takes : (e b n : ℕ) (keys : List ℕ) → Takes e b n keys → takes_of e b n keys ≡ true
unfolding takes_of
true_takes e b n keys t = simp (true_sized e b n t.sized, le-leb _ _ t.held)

-- ---- keys without a fault can be cut

pub good_cuttable : (e : ℕ) (keys : List ℕ) (n : ℕ) → e ≤ e_most → n ≤ n_most → n ≤ length keys → ((q : ℕ) → q < n → Good keys q) → Cuttable e (take n keys)
good_cuttable e keys n bound few held good =
    record { bound = bound; few = omega (arith, length-take-le n keys held); rising = good_up keys n held good }

-- ---- the room: where it holds as many segments as a cut can have, they are not counted

few_room : (t e m room : ℕ) → (t - 1) * (e + 2) + 1 ≤ m → (m - 1) / (e + 2) < room → t ≤ room
few_room t e m room few h =
    let q : t - 1 ≤ (m - 1) / (e + 2) = (le-div_iff_mul-le {k = e + 2} {x = t - 1} {y = m - 1} (omega arith)).1 (omega arith) in omega arith

module _ (e b : ℕ) (ks : List ℕ) {room m : ℕ} (roomed : room ≡ m) where
  pub roomy_few : Roomable e b ks → (length ks - 1) / (e + 2) < room → ltb ((length ks - 1) / (e + 2)) room ≡ leb (length (cut e ks)) m
  roomy_few asked h =
      let f : (length (cut e ks) - 1) * (e + 2) + 1 ≤ length ks = few ks asked.keys asked.some in
      lt-ltb _ _ h ∙ sym (le-leb _ _ (few_room (length (cut e ks)) e (length ks) m f (rw (← roomed) h)))

  pub roomy_counted : {s : ℕ} → s ≡ length (cut e ks) → leb s room ≡ leb (length (cut e ks)) m
  roomy_counted s = rw (s, roomed)

pub ruleset roomy_cases = (roomy_few, roomy_counted)

-- ---- the judgement

module _ (e b n : ℕ) (keys table buffers : List ℕ) {t : Bool} (taken : t ≡ takes_of e b n keys) where
  pub judge_limits : t ≡ false → Err Limits ≡ judged_of e b n keys table buffers
  unfolding judged_of
  judge_limits q = simp (sym taken ∙ q)

  module _ (yes : t ≡ true) {f : Option ℕ} (found : f ≡ fault_of keys n) where
    rest : Result ⊤ Refusal
    rest = roomed_of (length (cut e (take n keys))) (segment_room b table buffers)

    judges : (g : Option ℕ) → f ≡ g → judged_of e b n keys table buffers ≡ found_of g keys rest
    unfolding judged_of rest
    judges g is = simp (sym taken ∙ yes) (ap (λ (f : Option ℕ). found_of f keys rest) (sym found ∙ is))

    pub judge_wrong : {p : ℕ} {r : Refusal} → f ≡ Some p → r ≡ wrong_of keys p → Err r ≡ judged_of e b n keys table buffers
    judge_wrong {p} {r} at is = ap Err is ∙ sym (judges (Some p) at)

    module _ (none : f ≡ None) {ok : Bool} (roomy : ok ≡ leb (length (cut e (take n keys))) (segment_room b table buffers)) where
      pub judge_cramped : ok ≡ false → Err SegmentRoom ≡ judged_of e b n keys table buffers
      unfolding rest
      judge_cramped q = sym (judges None none ∙ simp (sym roomy ∙ q))

      pub judge_clear : ok ≡ true → Ok tt ≡ judged_of e b n keys table buffers
      unfolding rest
      judge_clear q = sym (judges None none ∙ simp (sym roomy ∙ q))

-- what its calls ask
module _ (e b n : ℕ) (keys : List ℕ) {t : Bool} (taken : t ≡ takes_of e b n keys) (yes : t ≡ true) where
  takes : Takes e b n keys
  takes = takes_true e b n keys (sym taken ∙ yes)

  pub fault_asks : Held keys n
  fault_asks = record { held = takes.held }

  -- the part that is lent has n keys
  pub part_counts : n ≡ length (take n keys)
  part_counts = sym (length-take-le n keys takes.held)

  module _ {f : Option ℕ} (found : f ≡ fault_of keys n) where
    pub wrong_asks : {p : ℕ} → f ≡ Some p → HeldAt keys p
    wrong_asks at = record { held = omega (arith, takes.held, (fault_lowest keys n (sym found ∙ at)).below) }

    pub roomy_asks : f ≡ None → Roomable e b (take n keys)
    roomy_asks none =
        record {
          keys = good_cuttable e keys n takes.sized.e_limit takes.sized.n_limit takes.held (all_good keys n (sym found ∙ none));
          some = omega (arith, length-take-le n keys takes.held, takes.sized.n_least);
          slots = omega (arith, takes.sized.b_least);
        }

pub ruleset judge_cases = (judge_limits, fault_asks, part_counts, wrong_asks, judge_wrong, roomy_asks, judge_cramped, judge_clear)

-- what a clear judgement says
pub record Cleared (e b n : ℕ) (keys table buffers : List ℕ) : Type 0 where
  pub takes : Takes e b n keys
  pub none : fault_of keys n ≡ None
  pub room : length (cut e (take n keys)) ≤ segment_room b table buffers

pub cleared : (e b n : ℕ) (keys table buffers : List ℕ) → judged_of e b n keys table buffers ≡ Ok tt → Cleared e b n keys table buffers
cleared e b n keys table buffers q =
    either (takes_of e b n keys)
    (λ t. by_fault t (fault_of keys n) refl)
    (λ t. absurd (not_clear (judge_limits e b n keys table buffers refl t ∙ q)))
  where
    not_clear : {r : Refusal} → ◌≡◌ {A = Result ⊤ Refusal} (Err r) (Ok tt) → ⊥
    not_clear e = let z : ◌≡◌ {A = ℕ} 0 1 = cc in omega arith

    by_fault : takes_of e b n keys ≡ true → (f : Option ℕ) → fault_of keys n ≡ f → Cleared e b n keys table buffers
    by_fault t (Some p) is = absurd (not_clear (judge_wrong e b n keys table buffers refl t refl is refl ∙ q))
    by_fault t None is =
        either (leb (length (cut e (take n keys))) (segment_room b table buffers))
        (λ l. record { takes = takes_true e b n keys t; none = is; room = leb-true _ _ l })
        (λ l. absurd (not_clear (judge_cramped e b n keys table buffers refl t refl is refl l ∙ q)))

-- ---- the call

module _ (e b n : ℕ) (keys table buffers : List ℕ) {a : Result ⊤ Refusal} (judged : a ≡ judged_of e b n keys table buffers) where
  pub build_faulty : {r : Refusal} → a ≡ Err r → Err r ≡ built_of e b n keys table buffers
  unfolding built_of
  build_faulty q = ap (λ (a : Result ⊤ Refusal). answer_by a (length (cut e (take n keys)))) (sym q ∙ judged)

  module _ (clear : a ≡ Ok tt) where
    facts : Cleared e b n keys table buffers
    facts = cleared e b n keys table buffers (sym judged ∙ clear)

    pub build_made : {s : ℕ} → s ≡ length (cut e (take n keys)) → Ok s ≡ built_of e b n keys table buffers
    unfolding built_of
    build_made is = ap Ok is ∙ ap (λ (a : Result ⊤ Refusal). answer_by a (length (cut e (take n keys)))) (sym clear ∙ judged)

    pub lent_counts : n ≡ length (take n keys)
    lent_counts = sym (length-take-le n keys facts.takes.held)

    pub write_asks : Writable e (take n keys) 0 table
    write_asks =
        let t : Takes e b n keys = facts.takes in
        let h : Holds b (length (cut e (take n keys))) table buffers =
        room_holds b (length (cut e (take n keys))) table buffers (omega (arith, t.sized.b_least)) facts.room in
        record {
          keys = good_cuttable e keys n t.sized.e_limit t.sized.n_limit t.held (all_good keys n facts.none);
          room = h.table_holds;
          place = omega (arith, length-take-le n keys t.held, t.sized.n_limit);
        }

pub ruleset build_cases = (build_faulty, build_made, lent_counts, write_asks)
