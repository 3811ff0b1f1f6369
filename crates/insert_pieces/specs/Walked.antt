-- The walk that counts the segments of a merged order, key by key: how far it has come, and what one key more or a stretch of joining keys makes of it.
use Rattle.std.specs.Prelude.{Option, Some, None}
use Rattle.std.specs.Prelude.{◌≡◌, List, ℕ, suc, ◌≤◌, ◌<◌, length, drop, get_or}
use Rattle.lists.specs.Merge.{merge, insert_sorted}
use Rattle.terms.specs.Limits.{key_of}
use Rattle.terms.specs.Keys.{IsKey, rising_keys, rising_from}
use Rattle.order.specs.declared.Cursor.{Cursor}
use Rattle.order.specs.Order.{rest_of, next_of, bound_of}
use Rattle.cone.specs.declared.Cone.{Cone}
use Rattle.cone.specs.Step.{Ready, step_of}
use Rattle.cone.specs.Walk.{Walk}
use Rattle.insert_pieces.specs.declared.Walked.{Walked}
use Rattle.insert_pieces.specs.Judged.{cutting_of, Judgeable}

-- the walk has come to the cursor, which has the rest
pub record Counting (e : ℕ) (run used : List ℕ) (k : ℕ) (w : Walked) : Type 0 where
  pub asked : Judgeable e run used
  pub base : ℕ
  pub come : ℕ
  pub walk : Walk e (merge run (insert_sorted k used)) w.closed base come w.cone
  pub rest : drop come (merge run (insert_sorted k used)) ≡ rest_of w.at run used k
  pub ordered : w.cone.origin.0 ≤ w.last
  pub so_far : rising_keys (merge run (insert_sorted k used)) ≡ rising_from (suc w.last) (rest_of w.at run used k)

-- x comes next
pub record Takable (e : ℕ) (run used : List ℕ) (k : ℕ) (w : Walked) (x : ℕ) (past : Cursor) : Type 0 where
  pub counting : Counting e run used k w
  pub next : next_of w.at run used k ≡ Some (x, past)

-- it is counted
pub record Took (e : ℕ) (run used : List ℕ) (k : ℕ) (past : Cursor) (v : Walked) : Type 0 where
  pub counting : Counting e run used k v
  pub at_past : v.at ≡ past

-- or the merged order does not rise
abbrev pub Takes : ℕ → List ℕ → List ℕ → ℕ → Cursor → Option Walked → Type 0
Takes e run used k past (Some v) = Took e run used k past v
Takes e run used k past None = None ≡ cutting_of e (merge run (insert_sorted k used))

-- the run's key at i, up to y and above the key before, may be tried with the cone
pub record Joinable (e : ℕ) (c : Cone) (last y : ℕ) (run : List ℕ) (i : ℕ) : Type 0 where
  pub ready : i < length run → get_or run i 0 ≤ y → last < get_or run i 0 → Ready e c (key_of (get_or run i 0))

-- it joins, and makes d of the cone
pub record Joining (e : ℕ) (c : Cone) (last y : ℕ) (run : List ℕ) (i : ℕ) (d : Cone) : Type 0 where
  pub inside : i < length run
  pub up : get_or run i 0 ≤ y
  pub after : last < get_or run i 0
  pub step : step_of e c (get_or run i 0) ≡ Some d

-- or not: why not is not said
abbrev pub Joins : ℕ → Cone → ℕ → ℕ → List ℕ → ℕ → Option Cone → Type 0
Joins e c last y run i (Some d) = Joining e c last y run i d
Joins e c last y run i None = Unit

-- the run's keys up to y come next
pub record Along (e : ℕ) (run used : List ℕ) (k : ℕ) (w : Walked) (y : ℕ) : Type 0 where
  pub counting : Counting e run used k w
  pub bound : y ≤ bound_of w.at used k
  pub small : IsKey y

-- none, one or many of them are counted
pub record Gone (e : ℕ) (run used : List ℕ) (k : ℕ) (w v : Walked) : Type 0 where
  pub counting : Counting e run used k v
  pub most : length (rest_of v.at run used k) ≤ length (rest_of w.at run used k)

-- the loop over the run has come to i: the slots and the closed segments are as they were, and what is left of the run, too, comes up to y
abbrev pub reached : Walked → ℕ → ℕ → Cone → Walked
reached w i last c = record { at = record { i = i; j = w.at.j; took = w.at.took }; last = last; closed = w.closed; cone = c }

pub record Going (e : ℕ) (run used : List ℕ) (k y : ℕ) (w : Walked) (i last : ℕ) (c : Cone) : Type 0 where
  pub gone : Gone e run used k w (reached w i last c)
  pub bound : y ≤ bound_of w.at used k
  pub small : IsKey y
