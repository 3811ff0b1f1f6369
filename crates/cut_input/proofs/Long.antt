-- A start list is decided by its first 15 bytes for each line that it may have, the one key too many among them.
-- Assumes nothing.
use Rattle.std.specs.Prelude.{Result}
use Rattle.terms.specs.declared.Refusal.{Refusal}
use mathlib.Core.Path.{◌≡◌, refl, ap}
use mathlib.Core.List.{List, ◌∷◌}
use Prim.Native.Nat.{ℕ, zero, suc, ◌+◌, ◌*◌, ◌≤◌}
use native.Mathlib.Omega.{arith}
use lib.ListN.{length, take}
use Rattle.text.specs.declared.Line.{Line}
use Rattle.text.specs.declared.Line.TheVariants.{Number, Bad, End}
use Rattle.text.specs.Lines.{line_at}
use Rattle.text.proofs.Long.{line_cut, line_near}
use Rattle.cut_input.specs.declared.Listed.{Listed}
use Rattle.cut_input.specs.StartList.{key_or, keys_of, value_or, values_of, number_or, counted, after_b, after_e, listed_of, given_after_e, given_of}

-- what goes on after a number may be replaced by what is the same there
key_same : (l : Line) (k : ℕ) (f g : ℕ → ℕ → Result ℕ Refusal) → ((v next : ℕ) → l ≡ Number v next → f v next ≡ g v next) → key_or l k f ≡ key_or l k g
key_same End k f g h = refl
key_same Bad k f g h = refl
key_same (Number v next) k f g h = h v next refl

value_same : (l : Line) (f g : ℕ → ℕ → List ℕ) → ((v next : ℕ) → l ≡ Number v next → f v next ≡ g v next) → value_or l f ≡ value_or l g
value_same End f g h = refl
value_same Bad f g h = refl
value_same (Number v next) f g h = h v next refl

number_same : (l : Line) (k : ℕ) (f g : ℕ → ℕ → Result Listed Refusal) → ((v next : ℕ) → l ≡ Number v next → f v next ≡ g v next) → number_or l k f ≡ number_or l k g
number_same End k f g h = refl
number_same Bad k f g h = refl
number_same (Number v next) k f g h = h v next refl

module _ (text : List ℕ) (m : ℕ) (held : m ≤ length text) where
  keys_cut : (room at k : ℕ) → at + 15 * suc room ≤ m → keys_of room (take m text) at k ≡ keys_of room text at k
  unfolding keys_of
  keys_cut zero at k h = rw (line_cut text at m (omega arith) held) refl
  keys_cut (suc room) at k h =
      rw (line_cut text at m (omega arith) held)
      (key_same (line_at text at) k _ _ (λ v next q. keys_cut room next (k + 1) (omega (arith, line_near text at v next q))))

  values_cut : (room at : ℕ) → at + 15 * suc room ≤ m → values_of room (take m text) at ≡ values_of room text at
  unfolding values_of
  values_cut zero at h = refl
  values_cut (suc room) at h =
      rw (line_cut text at m (omega arith) held)
      (value_same (line_at text at) _ _ (λ v next q. ap (λ (l : List ℕ). v ∷ l) (values_cut room next (omega (arith, line_near text at v next q)))))

  module _ (room : ℕ) (h : 15 * (room + 3) ≤ m) where
    pub listed_cut : listed_of room (take m text) ≡ listed_of room text
    unfolding listed_of after_e after_b
    listed_cut =
        rw (line_cut text 0 m (omega arith) held)
        (number_same (line_at text 0) 1 _ _
        (λ e next q.
        let n : next ≤ 15 = omega (arith, line_near text 0 e next q) in
        rw (line_cut text next m (omega arith) held)
        (number_same (line_at text next) 2 _ _
        (λ b third r. ap (counted e b) (keys_cut room third 0 (omega (arith, line_near text next b third r)))))))

    pub given_cut : given_of room (take m text) ≡ given_of room text
    unfolding given_of given_after_e
    given_cut =
        rw (line_cut text 0 m (omega arith) held)
        (value_same (line_at text 0) _ _
        (λ e next q.
        let n : next ≤ 15 = omega (arith, line_near text 0 e next q) in
        rw (line_cut text next m (omega arith) held)
        (value_same (line_at text next) _ _ (λ b third r. values_cut room third (omega (arith, line_near text next b third r))))))
