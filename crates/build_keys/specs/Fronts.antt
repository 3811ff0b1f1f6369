-- The first keys of a list that are seen to be good without a look at each alone.
use Rattle.std.specs.Prelude.{Bool, List, [], ◌∷◌, ℕ, ◌+◌, ◌-◌, ◌≤◌, ◌<◌, ltb, length, get_or}
use Rattle.lists.specs.Tests.{all}
use Rattle.build_keys.specs.Faults.{Good}

-- four keys from p on, and one before them
pub record FourHeld (keys : List ℕ) (p : ℕ) : Type 0 where
  pub before : 0 < p
  pub held : p + 4 ≤ length keys

abbrev pub fours : List ℕ → ℕ → List Bool
fours keys p =
    ltb (get_or keys (p - 1) 0) (get_or keys p 0) ∷
    (ltb (get_or keys p 0) (get_or keys (p + 1) 0) ∷
    (ltb (get_or keys (p + 1) 0) (get_or keys (p + 2) 0) ∷ (ltb (get_or keys (p + 2) 0) (get_or keys (p + 3) 0) ∷ [])))

unfoldable pub four_of : List ℕ → ℕ → Bool
four_of keys p = all (fours keys p)

-- the same as facts
pub record Four (keys : List ℕ) (p : ℕ) : Type 0 where
  pub first : get_or keys (p - 1) 0 < get_or keys p 0
  pub second : get_or keys p 0 < get_or keys (p + 1) 0
  pub third : get_or keys (p + 1) 0 < get_or keys (p + 2) 0
  pub fourth : get_or keys (p + 2) 0 < get_or keys (p + 3) 0

-- each of the first p keys but the very first is above the one before
pub record Front (keys : List ℕ) (n p : ℕ) : Type 0 where
  pub inside : p ≤ n
  pub rises : (q : ℕ) → 0 < q → q < p → get_or keys (q - 1) 0 < get_or keys q 0

-- each of the first p keys is good
pub record GoodFront (keys : List ℕ) (n p : ℕ) : Type 0 where
  pub inside : p ≤ n
  pub good : (q : ℕ) → q < p → Good keys q
