-- 01, "Segment i has five numbers in the table: first key, base, rise, run, held." The cells of a cut's segments; "Held" is 0.
use Rattle.std.specs.Prelude.{◌≡◌, List, [], ◌∷◌, ◌++◌, ℕ, ◌+◌, ◌-◌, ◌*◌, ◌≤◌, ◌<◌, length, get_or}
use Rattle.terms.specs.Limits.{n_most}
use Rattle.cone.specs.Rule.{Segment, cut}
use Rattle.cone.specs.Keys.{Cuttable}

-- positions of the cut are counted from the start of its list, which stands in the key slice from position `from` on
abbrev pub row_of : ℕ → Segment → List ℕ
row_of from x = x.first ∷ (from + x.base) ∷ x.rise ∷ x.run ∷ 0 ∷ []

unfoldable pub rows_of : ℕ → List Segment → List ℕ
rows_of from [] = []
rows_of from (x ∷ xs) = row_of from x ++ rows_of from xs

-- what the numbers of a closed segment of c keys ask: it has keys, the last not below the first
pub record Stretch (ks : List ℕ) (i c : ℕ) : Type 0 where
  pub some : 0 < c
  pub inside : i + c ≤ length ks
  pub ordered : get_or ks i 0 ≤ get_or ks (i + (c - 1)) 0

-- and what writing them as row n asks
pub record Room (ks : List ℕ) (i c from : ℕ) (table : List ℕ) (n : ℕ) : Type 0 where
  pub stretch : Stretch ks i c
  pub place : from + i ≤ n_most
  pub held : 5 * n + 5 ≤ length table

-- what writing a cut asks
pub record Writable (e : ℕ) (ks : List ℕ) (from : ℕ) (table : List ℕ) : Type 0 where
  pub keys : Cuttable e ks
  pub room : 5 * length (cut e ks) ≤ length table
  pub place : from + length ks ≤ n_most

-- and that there are t segments, if that is known
pub record Known (e : ℕ) (ks : List ℕ) (from : ℕ) (table : List ℕ) (t : ℕ) : Type 0 where
  pub writable : Writable e ks from table
  pub some : 0 < length ks
  pub pieces : t ≡ length (cut e ks)
