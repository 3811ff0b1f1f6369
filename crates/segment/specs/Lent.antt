-- What is asked of a segment, of an entry and of its slices: by the parts, and of the parts.
use Rattle.std.specs.Prelude.{◌≡◌, List, ℕ, ◌+◌, ◌-◌, ◌*◌, ◌^◌, ◌≤◌, ◌<◌, length}
use Rattle.terms.specs.Limits.{n_most, rise_most}
use Rattle.terms.specs.Keys.{IsKey}
use Rattle.terms.specs.declared.Entry.{Entry}
use Rattle.table.specs.Store.{Store}
use Rattle.table.specs.Limits.{Limits}

-- the limits hold, and i is a segment
pub record Segment (σ : Store) (i : ℕ) : Type 0 where
  pub limits : Limits σ
  pub inside : i < σ.s

-- the key slice holds the run
pub record RunHeld (keys : List ℕ) (x : Entry) : Type 0 where
  pub some : x.base.0 ≤ x.end.0
  pub held : x.end.0 ≤ length keys

-- the buffer slice holds the used slots of segment i
pub record UsedHeld (b : ℕ) (buffers : List ℕ) (i : ℕ) (x : Entry) : Type 0 where
  pub held : i * b + x.held ≤ length buffers
  pub few : i * b + x.held < 2 ^ 64

-- what the functions below a call ask of an entry that is not damaged, and of the lengths of the run and the used slots that its segment lends; that
-- these are the store's own is what `run_of` and `used_of` ensure
pub record Lent (x : Entry) (run used : List ℕ) : Type 0 where
  pub first_small : IsKey x.first.0
  pub run_some : 0 < x.run
  pub rise_limit : x.rise ≤ rise_most
  pub some : x.base.0 < x.end.0
  pub end_most : x.end.0 ≤ n_most
  pub run_whole : length run ≡ x.end.0 - x.base.0
  pub used_whole : length used ≡ x.held
