-- 01, "later entries move by t−1 places, their bases grow by B". An entry is five numbers: first key, base, rise, run, held.
use Rattle.std.specs.Prelude.{◌≡◌, List, [], ◌∷◌, ◌++◌, ℕ, zero, suc, ◌+◌, ◌*◌, ◌^◌, ◌≤◌, ◌<◌, length, get_or, take, drop}

-- the first c entries of these cells, with `by` more in each base
unfoldable pub raised : ℕ → ℕ → List ℕ → List ℕ
raised zero by cells = []
raised (suc c) by cells =
    get_or cells 0 0 ∷ ((get_or cells 1 0 + by) ∷ (get_or cells 2 0 ∷ (get_or cells 3 0 ∷ (get_or cells 4 0 ∷ raised c by (drop 5 cells)))))

-- so raised, they stand `places` entries further up; what they leave behind, and all else, stays
unfoldable pub raised_up : ℕ → ℕ → ℕ → List ℕ → List ℕ
raised_up entries places add tail = take (5 * places) tail ++ (raised entries add tail ++ drop (5 * places + 5 * entries) tail)

-- the larger bases still fit a word
abbrev pub BasesFit : ℕ → ℕ → List ℕ → Type 0
BasesFit n add xs = (i : ℕ) → i < n → get_or xs (5 * i + 1) 0 + add < 2 ^ 64

pub record Raisable (t : List ℕ) (entries add : ℕ) : Type 0 where
  pub held : 5 * entries ≤ length t
  pub fit : BasesFit entries add t

pub record Tail (tail : List ℕ) (entries places add : ℕ) : Type 0 where
  pub held : 5 * places + 5 * entries ≤ length tail
  pub fit : BasesFit entries add tail

-- the loop: the bases of i entries have grown
pub record Raising (xs : List ℕ) (entries add : ℕ) (t : List ℕ) (i : ℕ) : Type 0 where
  pub few : i ≤ entries
  pub same : length t ≡ length xs
  pub is : t ≡ raised i add xs ++ drop (5 * i) xs
