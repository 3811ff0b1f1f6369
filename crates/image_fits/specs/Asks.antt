-- What the tests ask.
use Rattle.std.specs.Prelude.{List, ℕ, ◌*◌, ◌≤◌, ◌<◌, length}
use Rattle.terms.specs.Limits.{b_most, s_most}

-- the slices hold s entries
pub record EntriesRoom (b s : ℕ) (t buffers : List ℕ) : Type 0 where
  pub few : s ≤ s_most
  pub rows : 5 * s ≤ length t
  pub small : b ≤ b_most
  pub slots : s * b ≤ length buffers

-- and i is one of them
pub record EntryRoom (b s : ℕ) (t buffers : List ℕ) (i : ℕ) : Type 0 where
  pub below : i < s
  pub room : EntriesRoom b s t buffers
