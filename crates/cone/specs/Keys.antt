-- The keys that a cut is made of: few, small and strictly rising, with a bound within its limit.
use Rattle.std.specs.Prelude.{List, ℕ, ◌≤◌, length}
use Rattle.terms.specs.Limits.{e_most, cut_most}
use Rattle.terms.specs.Keys.{RisingKeys}

pub record Cuttable (e : ℕ) (ks : List ℕ) : Type 0 where
  pub bound : e ≤ e_most
  pub few : length ks ≤ cut_most
  pub rising : RisingKeys ks
