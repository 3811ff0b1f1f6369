-- One step of the cone, on natural numbers: two fractions stand for all the earlier keys. That it decides the rule is a law.
use Rattle.std.specs.Prelude.{Option, Some, None}
use Rattle.std.specs.Prelude.{◌≡◌, Bool, ℕ, ◌+◌, ◌-◌, ◌*◌, ◌≤◌, ◌<◌, leb, ltb}
use Rattle.lists.specs.Tests.{pick, both}
use Rattle.terms.specs.declared.Key.{Key}
use Rattle.terms.specs.Limits.{key_limit, e_most, cut_most, key_of}
use Rattle.terms.specs.Keys.{IsKey}
use Rattle.cone.specs.declared.Frac.{Frac}
use Rattle.cone.specs.declared.Cone.{Cone}

-- what a step asks: the numbers of the cone are small, and the key comes after the origin
pub record Ready (e : ℕ) (c : Cone) (key : Key) : Type 0 where
  pub bound : e ≤ e_most
  pub small : IsKey key.0
  pub after : c.origin.0 < key.0
  pub few : c.count < cut_most
  pub flat_top : c.flat.top < key_limit
  pub flat_bottom : c.flat.bottom ≤ c.count + e
  pub flat_slack : c.flat.slack.0 ≡ e * c.flat.top
  pub steep_top : c.steep.top ≤ c.count
  pub steep_bottom : c.steep.bottom < key_limit
  pub steep_slack : c.steep.slack.0 ≡ e * c.steep.bottom

-- and both fractions let the line to the key pass
pub record Passing (e : ℕ) (c : Cone) (key : Key) : Type 0 where
  pub ready : Ready e c key
  pub flat_lets : c.flat.top * c.count ≤ (key.0 - c.origin.0) * c.flat.bottom
  pub steep_lets : c.steep.top * (key.0 - c.origin.0) ≤ c.count * c.steep.bottom

-- one key: the least fractions
abbrev pub start_of : ℕ → ℕ → Cone
start_of e key =
    record {
      origin = key_of key;
      count = 1;
      flat = record { top = 0; bottom = 1; slack = record { 0 = 0 } };
      steep = record { top = 0; bottom = 1; slack = record { 0 = e } };
    }

-- the new key's fractions, (key distance) / (position + e) and (position - e) / (key distance)
abbrev pub new_flat : ℕ → Cone → ℕ → Frac
new_flat e c key = record { top = key - c.origin.0; bottom = c.count + e; slack = record { 0 = e * (key - c.origin.0) } }

abbrev pub new_steep : ℕ → Cone → ℕ → Frac
new_steep e c key = record { top = c.count - e; bottom = key - c.origin.0; slack = record { 0 = e * (key - c.origin.0) } }

-- each in the place of the one that is kept, where it is larger
unfoldable pub flat_of : ℕ → Cone → ℕ → Frac
flat_of e c key = pick (ltb (c.flat.top * c.count + c.flat.slack.0) ((key - c.origin.0) * c.flat.bottom)) (new_flat e c key) c.flat

unfoldable pub steep_of : ℕ → Cone → ℕ → Frac
steep_of e c key = pick (ltb (c.steep.top * (key - c.origin.0) + c.steep.slack.0) (c.count * c.steep.bottom)) (new_steep e c key) c.steep

-- the cone with one key more
abbrev pub grown : ℕ → Cone → ℕ → Cone
grown e c key = record { origin = c.origin; count = c.count + 1; flat = flat_of e c key; steep = steep_of e c key }

-- both fractions let the line to the key pass
abbrev pub lets : Cone → ℕ → Bool
lets c key =
    both (leb (c.flat.top * c.count) ((key - c.origin.0) * c.flat.bottom))
    (leb (c.steep.top * (key - c.origin.0)) (c.count * c.steep.bottom))

unfoldable pub step_of : ℕ → Cone → ℕ → Option Cone
step_of e c key = pick (lets c key) (Some (grown e c key)) None
