-- The store rules that are about one key of a segment's merged order: "strictly rising and below 2^44; in a segment after 0 no used key is below the
-- first key; no key of the run and no used key reaches the next segment's first key; each key of the run lies in its own window".
use Rattle.std.specs.Prelude.{Option}
use Rattle.std.specs.Prelude.{Bool, ℕ, ◌≤◌, ◌<◌, ltb, leb}
use Rattle.lists.specs.Tests.{both, imp}
use Rattle.terms.specs.Limits.{rise_most, n_most, key_of}
use Rattle.terms.specs.Keys.{is_key}
use Rattle.terms.specs.declared.Entry.{Entry}
use Rattle.line.specs.Line.{window_of}
use Rattle.order.specs.Bound.{above_of, under_of}

-- a key of the merged order, after `before` and with the next segment at `next`
unfoldable pub between_of : Option ℕ → Option ℕ → ℕ → Bool
between_of next before k = both (is_key k) (both (above_of before k) (under_of next k))

-- one of the run, at position p: it lies in its own window
unfoldable pub run_key_of : ℕ → Entry → Option ℕ → Option ℕ → ℕ → ℕ → Bool
run_key_of e x next before k p =
    both (between_of next before k) (both (leb (window_of e x (key_of k)).from.0 p) (ltb p (window_of e x (key_of k)).to.0))

-- a used one, of segment i: after segment 0 it is not below the first key
unfoldable pub used_key_of : Entry → ℕ → Option ℕ → Option ℕ → ℕ → Bool
used_key_of x i next before k = both (between_of next before k) (imp (ltb 0 i) (leb x.first.0 k))

-- the numbers of the line and of the place `at` in the run are small
pub record Placed (x : Entry) (at : ℕ) : Type 0 where
  pub rise_limit : x.rise ≤ rise_most
  pub run_some : 0 < x.run
  pub base_most : x.base.0 ≤ n_most
  pub few : at ≤ n_most
