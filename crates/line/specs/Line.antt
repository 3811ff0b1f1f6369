-- 01, "The line": the guess of a segment for a key, and the window about the guess. Exact, on natural numbers.
use Rattle.std.specs.Prelude.{Option, Some, None}
use Rattle.std.specs.Prelude.{ℕ, ◌+◌, ◌-◌, ◌*◌, ◌/◌, min, max, ◌≤◌, ◌<◌, ltb}
use Rattle.lists.specs.Tests.{pick}
use Rattle.terms.specs.declared.Key.{Key}
use Rattle.terms.specs.declared.Pos.{Pos}
use Rattle.terms.specs.declared.Entry.{Entry}
use Rattle.terms.specs.Limits.{n_most, rise_most}
use Rattle.terms.specs.Keys.{IsKey}
use Rattle.line.specs.declared.Span.{Span}
use Rattle.line.specs.declared.Places.{Places}

-- what an entry that is not damaged, and a key, give: the numbers of a guess are small
pub record Lined (x : Entry) (k : Key) : Type 0 where
  pub rise_limit : x.rise ≤ rise_most
  pub run_some : 0 < x.run
  pub base_most : x.base.0 ≤ n_most
  pub key_small : IsKey k.0

-- "base + (k − first)·rise / run, the quotient rounded down"
abbrev pub guess_at : Entry → Key → ℕ
guess_at x k = x.base.0 + (k.0 - x.first.0) * x.rise / x.run

-- "when k is not below the first key"; "If k is below the first key there is no guess"
unfoldable pub guess_of : Entry → Key → Option Pos
guess_of x k = pick (ltb k.0 x.first.0) None (Some (record { 0 = guess_at x k }))

-- "the positions p with base ≤ p < end that differ from the guess by at most e", as their two ends
abbrev pub near_of : ℕ → Entry → Pos → Span
near_of e x g = record { from = record { 0 = max x.base.0 (g.0 - e) }; to = record { 0 = min x.end.0 (g.0 + e + 1) } }

-- "and the window is empty"
abbrev pub around_of : ℕ → Entry → Option Pos → Span
around_of e x None = record { from = record { 0 = 0 }; to = record { 0 = 0 } }
around_of e x (Some g) = near_of e x g

unfoldable pub window_of : ℕ → Entry → Key → Span
window_of e x k = around_of e x (guess_of x k)

-- and a run that is not backwards
pub record Reaching (x : Entry) (k : Key) : Type 0 where
  pub lined : Lined x k
  pub some : x.base.0 ≤ x.end.0

-- the window as places of the run, counted from the run's start
unfoldable pub reach_of : ℕ → Entry → Key → Places
reach_of e x k = record { from = (window_of e x k).from.0 - x.base.0; to = (window_of e x k).to.0 - x.base.0 }
