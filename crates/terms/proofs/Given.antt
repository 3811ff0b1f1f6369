-- What the two first steps of a call say: the numbers are within their limits, and the number given is a key.
-- Assumes nothing.
use Rattle.std.specs.Prelude.{◌≡◌, ℕ, true, false, Result, Ok, Err}
use Rattle.std.proofs.Common.{sym, ap, ◌∙◌}
use Rattle.std.specs.Result.{is_ok}
use Rattle.lists.proofs.Tests.{either, clash}
use Rattle.lists.specs.Tests.{pick}
use Rattle.terms.specs.declared.Key.{Key}
use Rattle.terms.specs.declared.Refusal.{Refusal}
use Rattle.terms.specs.declared.Refusal.TheVariants.{LargeKey}
use Rattle.terms.specs.Limits.{key_of}
use Rattle.terms.specs.Keys.{is_key, key_given}

pub given_true : (k : ℕ) {key : Key} → Ok key ≡ key_given k → is_key k ≡ true
given_true k h = either (is_key k) (λ t. t) (λ t. clash (ap is_ok (simp t at h)))

pub given_is : (k : ℕ) {key : Key} → Ok key ≡ key_given k → key ≡ key_of k
given_is k {key} h = either (is_key k) (λ t. let e : ◌≡◌ {A = Result Key Refusal} (Ok key) (Ok (key_of k)) = simp t at h in cc) (λ t. clash (ap is_ok (simp t at h)))

pub given_false : (k : ℕ) {r : Refusal} → Err r ≡ key_given k → is_key k ≡ false
given_false k h = either (is_key k) (λ t. clash (sym (ap is_ok (simp t at h)))) (λ t. t)

pub given_refusal : (k : ℕ) {r : Refusal} → Err r ≡ key_given k → r ≡ LargeKey (record { 0 = 0 })
given_refusal k {r} h =
    either (is_key k) (λ t. clash (sym (ap is_ok (simp t at h))))
    (λ t. let e : ◌≡◌ {A = Result Key Refusal} (Err r) (Err (LargeKey (record { 0 = 0 }))) = simp t at h in cc)
