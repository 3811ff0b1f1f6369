-- The check on the store that 01 prints, and on the same store with one number changed.
-- Assumes nothing.
use Rattle.std.specs.Prelude.{Ok, Err}
use mathlib.Core.Path.{◌≡◌, refl}
use mathlib.Core.List.{[], ◌∷◌}
use Prim.Native.Nat.{ℕ}
use Rattle.lists.specs.Tests.{all, any}
use Rattle.terms.specs.Limits.{sizes_of}
use Rattle.terms.specs.declared.Refusal.TheVariants.{StoreWrong}
use Rattle.table.specs.Store.{Store, store_of}
use Rattle.table.specs.Limits.{limited_of}
use Rattle.table.specs.Entries.{entry_of}
use Rattle.table.specs.Damaged.{damaged_of}
use Rattle.line.specs.Line.{guess_of, window_of}
use Rattle.scan.specs.Scan.{first_passing, fails_of}
use Rattle.judge_key.specs.Key.{between_of, run_key_of, used_key_of}
use Rattle.judge.specs.Check.{kept_of, entry_rules, rules_of, check_of}

-- with this first key of segment 1, and this key in its first slot, of which it holds so many
abbrev printed : ℕ → ℕ → ℕ → Store
printed first slot held =
    store_of (sizes_of 1 2 6 2) (10 ∷ (20 ∷ (30 ∷ (100 ∷ (110 ∷ (120 ∷ []))))))
    (10 ∷ (0 ∷ (2 ∷ (20 ∷ (0 ∷ (first ∷ (3 ∷ (2 ∷ (20 ∷ (held ∷ []))))))))))
    (0 ∷ (0 ∷ (slot ∷ (0 ∷ []))))

accepted : check_of (printed 100 0 0) ≡ Ok tt
unfolding check_of rules_of entry_rules kept_of run_key_of used_key_of between_of fails_of first_passing window_of guess_of limited_of damaged_of all any entry_of
accepted = refl

-- keys of segment 0 that reach the next first key are segment 0's fault
reached : check_of (printed 30 0 0) ≡ Err (StoreWrong 0)
unfolding check_of rules_of entry_rules kept_of run_key_of used_key_of between_of fails_of first_passing window_of guess_of limited_of damaged_of all any entry_of
reached = refl

-- a first key that is not the key at base is its own segment's
not_first : check_of (printed 31 0 0) ≡ Err (StoreWrong 1)
unfolding check_of rules_of entry_rules kept_of run_key_of used_key_of between_of fails_of first_passing window_of guess_of limited_of damaged_of all any entry_of
not_first = refl

-- a used key among the run's, and one that is below the first key
buffered : check_of (printed 100 105 1) ≡ Ok tt
unfolding check_of rules_of entry_rules kept_of run_key_of used_key_of between_of fails_of first_passing window_of guess_of limited_of damaged_of all any entry_of
buffered = refl

before_first : check_of (printed 100 99 1) ≡ Err (StoreWrong 1)
unfolding check_of rules_of entry_rules kept_of run_key_of used_key_of between_of fails_of first_passing window_of guess_of limited_of damaged_of all any entry_of
before_first = refl
