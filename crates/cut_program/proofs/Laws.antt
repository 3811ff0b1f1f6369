-- The cases of the program.
-- Assumes nothing.
use Rattle.std.specs.Prelude.{Option, Some, None, Result, Ok, Err}
use mathlib.Core.Path.{◌≡◌, refl, sym, ap, ◌∙◌}
use mathlib.Core.List.{List}
use Prim.Native.Nat.{ℕ, ◌≤◌}
use native.Mathlib.Omega.{arith}
use lib.Dec.{leb}
use lib.ListN.{length, replicate, take, length-replicate}
use borrow.Author.Tests.{leb-true}
use Rattle.lists.specs.Over.{over}
use Rattle.lists.proofs.Tests.{either}
use Rattle.terms.specs.declared.Refusal.{Refusal}
use Rattle.terms.specs.declared.Sizes.{Sizes}
use Rattle.table.specs.Limits.{segment_room}
use Rattle.cone.specs.Rule.{cut}
use Rattle.build_keys.specs.Faults.{fault_of}
use Rattle.build.specs.Build.{takes_of, roomed_of, found_of, judged_of, answer_by, built_of, table_by}
use Rattle.cut_input.specs.declared.Listed.{Listed}
use Rattle.cut_input.specs.StartList.{listed_of, given_of}
use Rattle.cut_output.specs.Report.{report_of, refusal_of}
use Rattle.cut_output.proofs.Laws.{report_most, refusal_most}
use Rattle.cut_program.specs.Output.{built_output, output_of, shown_of}

-- what build made has room
made_room : (e b n : ℕ) (keys table buffers : List ℕ) (s : ℕ) → built_of e b n keys table buffers ≡ Ok s → s ≤ segment_room b table buffers
unfolding built_of judged_of
made_room e b n keys table buffers s =
    either (takes_of e b n keys) (λ t. simp t (λ q. found (fault_of keys n) q)) (λ t. simp t (λ q. absurd (let z : ◌≡◌ {A = ℕ} 0 1 = cc in omega arith)))
  where
    count : ℕ
    count = length (cut e (take n keys))

    found : (f : Option ℕ) → answer_by (found_of f keys (roomed_of count (segment_room b table buffers))) count ≡ Ok s → s ≤ segment_room b table buffers
    found (Some p) = λ q. absurd (let z : ◌≡◌ {A = ℕ} 0 1 = cc in omega arith)
    found None =
        either (leb count (segment_room b table buffers))
        (λ t. simp t (λ q. let e : count ≡ s = cc in omega (arith, leb-true count (segment_room b table buffers) t)))
        (λ t. simp t (λ q. absurd (let z : ◌≡◌ {A = ℕ} 0 1 = cc in omega arith)))

-- ---- cut_list

module _ (text : List ℕ) where
  pub unlisted : (table : List ℕ) {r : Refusal} {a : Result Sizes Refusal} → a ≡ Err r → Err r ≡ listed_of 512 text → shown_of a table ≡ output_of text
  unfolding output_of
  unlisted table p h = rw (p, ← h) refl

  module _ (g : Listed) (keys table : List ℕ) (listed : Ok g ≡ listed_of 512 text) (given : keys ≡ over (replicate 512 0) 0 (given_of 512 text)) (zeros : table ≡ replicate 2560 0) where
    from_keys : built_output g.e g.b g.n keys table (replicate 2048 0) ≡ output_of text
    unfolding output_of
    from_keys = rw (given, zeros, ← listed) refl

    pub unbuilt : (after : List ℕ) {r : Refusal} {a : Result Sizes Refusal} → a ≡ Err r → Err r ≡ built_of g.e g.b g.n keys table (replicate 2048 0) → shown_of a after ≡ output_of text
    unfolding built_output
    unbuilt after {r} {a} p h = let q : shown_of a after ≡ built_output g.e g.b g.n keys table (replicate 2048 0) = rw (p, ← h) refl in q ∙ from_keys

    module _ (s : ℕ) (made : Ok s ≡ built_of g.e g.b g.n keys table (replicate 2048 0)) where
      pub built : {after : List ℕ} → after ≡ table_by (Ok s) g.e g.n keys table → report_of g.n s g.e g.b after ≡ output_of text
      unfolding built_output
      built {after} w = let q : report_of g.n s g.e g.b after ≡ built_output g.e g.b g.n keys table (replicate 2048 0) = rw (w, ← made) refl in q ∙ from_keys

      pub built_few : s ≤ 512
      built_few =
          let room : s ≤ segment_room g.b table (replicate 2048 0) = made_room g.e g.b g.n keys table (replicate 2048 0) s (sym made) in
          omega (arith, ap length zeros, length-replicate {A = ℕ} 2560 0)

-- ---- run

pub refused_short : (r : Refusal) {p : ℕ} → p ≡ length (refusal_of r) → p ≤ 53880
refused_short r q = omega (arith, refusal_most r)

pub made_short : (n s e b : ℕ) (table : List ℕ) → s ≤ 512 → {p : ℕ} → p ≡ length (report_of n s e b table) → p ≤ 53880
made_short n s e b table few q = omega (arith, report_most n s e b table)

pub ruleset run_cases = (refused_short, made_short)
