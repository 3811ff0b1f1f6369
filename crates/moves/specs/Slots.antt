-- 01, "their used buffer slots move with them".
use Rattle.std.specs.Prelude.{◌≡◌, List, [], ◌∷◌, ◌++◌, ℕ, zero, suc, ◌+◌, ◌-◌, ◌*◌, ◌^◌, ◌≤◌, ◌<◌, length, get_or, take, drop}

-- how many slots each of the first c entries of these cells holds
unfoldable pub held_of : ℕ → List ℕ → List ℕ
held_of zero cells = []
held_of (suc c) cells = get_or cells 4 0 ∷ held_of c (drop 5 cells)

-- per segment of b cells the used ones of `from`, as counted, over those of `onto`: "cells not written keep their bytes"
unfoldable pub laid : ℕ → List ℕ → List ℕ → List ℕ → List ℕ
laid b [] from onto = onto
laid b (h ∷ hs) from onto = take h from ++ (take (b - h) (drop h onto) ++ laid b hs (drop b from) (drop b onto))

-- the used slots of the segments from the first of these cells on, `by` segments further up: "a moved segment's old slots are not cleared"
unfoldable pub lifted : ℕ → ℕ → List ℕ → List ℕ → List ℕ
lifted b by hs cells = take (by * b) cells ++ laid b hs cells (drop (by * b) cells)

pub record Liftable (slots tail : List ℕ) (b count by : ℕ) : Type 0 where
  pub held : 5 * count ≤ length tail
  pub few : (m : ℕ) → m < count → get_or tail (5 * m + 4) 0 ≤ b
  pub room : (by + count) * b ≤ length slots
  pub small : (by + count) * b < 2 ^ 64

-- the loop: of the segments, c are still to go up
pub record Lifting (xs tail : List ℕ) (b count by : ℕ) (slots : List ℕ) (c : ℕ) : Type 0 where
  pub asked : Liftable xs tail b count by
  pub more : c ≤ count
  pub same : length slots ≡ length xs
  pub is : slots ≡ take ((by + c) * b) xs ++ laid b (drop c (held_of count tail)) (drop (c * b) xs) (drop ((by + c) * b) xs)
