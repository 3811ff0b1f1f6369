-- 01, "the run, the used slots and k become one rising list", "that list alone is cut with e": into how many segments, if it does rise.
use Rattle.std.specs.Prelude.{Option, Some, None}
use Rattle.std.specs.Prelude.{◌≡◌, Bool, List, ◌∷◌, ℕ, suc, ◌+◌, ◌≤◌, leb, length}
use Rattle.lists.specs.Tests.{pick, both}
use Rattle.lists.specs.Merge.{merge, insert_sorted}
use Rattle.terms.specs.Limits.{e_most, cut_most}
use Rattle.terms.specs.Keys.{is_key, IsKey, rising_keys}
use Rattle.order.specs.declared.Cursor.{Cursor}
use Rattle.order.specs.Order.{rest_of}
use Rattle.cone.specs.Rule.{cut}

-- a key, above the one before it
unfoldable pub after_of : ℕ → ℕ → Bool
after_of before x = both (leb (suc before) x) (is_key x)

unfoldable pub cutting_of : ℕ → List ℕ → Option ℕ
cutting_of e ks = pick (rising_keys ks) (Some (length (cut e ks))) None

-- the keys are few
pub record Judgeable (e : ℕ) (run used : List ℕ) : Type 0 where
  pub bound : e ≤ e_most
  pub few : length run + (length used + 1) ≤ cut_most

-- and x, a key, is the first of them
pub record Begun (e : ℕ) (m : Cursor) (x : ℕ) (run used : List ℕ) (k : ℕ) : Type 0 where
  pub asked : Judgeable e run used
  pub key : IsKey x
  pub first : merge run (insert_sorted k used) ≡ x ∷ rest_of m run used k
