-- What each answer of the check means, with no walk in it: 01's words as a relation between a store and an answer.
use Rattle.std.specs.Prelude.{Result, Ok, Err}
use Rattle.terms.specs.declared.Refusal.{Refusal}
use Rattle.std.specs.Prelude.{⊤}
use Rattle.std.specs.Prelude.{ℕ, ◌<◌}
use Rattle.terms.specs.declared.Refusal.TheVariants.{Limits as OutOfLimits, StoreWrong}
use Rattle.table.specs.Store.{Store}
use Rattle.table.specs.Limits.{Limits}
use Rattle.judge.specs.Rules.{Rules, Accepted}

-- "the lowest segment that breaks a rule"
pub record Wrong (σ : Store) (i : ℕ) : Type 0 where
  pub limits : Limits σ
  pub inside : i < σ.s
  pub breaks : Rules σ i → ⊥
  pub before : (j : ℕ) → j < i → Rules σ j

-- yes, and the refusals in 01's order: 1, 9
pub data Answers (σ : Store) : Result ⊤ Refusal → Type 0 where
  good : Accepted σ → Answers σ (Ok tt)
  refused_1 : (Limits σ → ⊥) → Answers σ (Err OutOfLimits)
  refused_9 : {i : ℕ} → Wrong σ i → Answers σ (Err (StoreWrong i))
