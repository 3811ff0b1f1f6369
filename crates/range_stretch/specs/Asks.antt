-- What the functions ask, and how far their loops have come.
use Rattle.std.specs.Prelude.{Option}
use Rattle.std.specs.Prelude.{◌≡◌, List, ℕ, ◌+◌, ◌-◌, ◌*◌, ◌^◌, ◌≤◌, ◌<◌, length}
use Rattle.lists.specs.Merge.{merge}
use Rattle.lists.specs.Between.{between}
use Rattle.lists.specs.Over.{Space, Writing}
use Rattle.terms.specs.Limits.{s_most, cut_most}
use Rattle.table.specs.Store.{Store}
use Rattle.table.specs.Limits.{Limits}
use Rattle.table.specs.Entries.{entry_in}
use Rattle.table.specs.Damaged.{Sound}
use Rattle.table.specs.Reads.{merged_in}
use Rattle.scan.specs.Scan.{fails_of}
use Rattle.order.specs.declared.Cursor.{Cursor}
use Rattle.order.specs.Order.{rest_of}
use Rattle.choose.specs.Stretch.{keys_in}
use Rattle.segment.specs.Lent.{Segment}
use Rattle.range_stretch.specs.Stretch.{before_in, fine_of, walked_of}

-- ---- counting

-- a key more can be counted
pub record Countable (seen : ℕ) : Type 0 where
  pub few : seen + 1 < 2 ^ 64

-- and all of two lists
pub record Few (seen : ℕ) (run used : List ℕ) : Type 0 where
  pub few : seen + (length run + length used) < 2 ^ 64

-- the walk over a segment has come to m, past the key `last`: what is left decides
pub record Walking (low high : ℕ) (before : Option ℕ) (seen : ℕ) (run used : List ℕ) (last : Option ℕ) (count : ℕ) (m : Cursor) : Type 0 where
  pub few : count + length (rest_of m run used 0) < 2 ^ 64
  pub so_far : walked_of low high before seen (merge run used) ≡ walked_of low high last count (rest_of m run used 0)

-- the limits hold, i is a segment, and so many keys were seen in at most 8,192 segments
pub record Seeable (σ : Store) (i seen : ℕ) : Type 0 where
  pub segment : Segment σ i
  pub few : seen ≤ cut_most * s_most

-- ---- the stretch

-- its segments are segments of the store
pub record Stretch (σ : Store) (a to : ℕ) : Type 0 where
  pub limits : Limits σ
  pub inside : to ≤ σ.s

-- the judging has come to segment i: what is left decides
pub record Judging (σ : Store) (low high a to i : ℕ) (before : Option ℕ) (seen : ℕ) : Type 0 where
  pub from : a ≤ i
  pub inside : i - a ≤ to - a
  pub last : before ≡ before_in σ a i
  pub counts : seen ≡ length (keys_in σ low high a i)
  pub few : seen ≤ cut_most * (i - a)
  pub so_far : fails_of (fine_of σ a) a (to - a) ≡ fails_of (fine_of σ a) i (to - i)

-- ---- writing

-- segment i is one of the store's, not damaged, and its keys from low to high have room
pub record Placeable (σ : Store) (low high i : ℕ) (out : List ℕ) (at : ℕ) : Type 0 where
  pub segment : Segment σ i
  pub sound : Sound σ.b σ.n (entry_in σ i)
  pub room : Space out at (length (between low high (merged_in σ i)))

-- so are all of the stretch
pub record Fillable (σ : Store) (low high a to : ℕ) (out : List ℕ) : Type 0 where
  pub stretch : Stretch σ a to
  pub sound : (i : ℕ) → a ≤ i → i < to → Sound σ.b σ.n (entry_in σ i)
  pub room : length (keys_in σ low high a to) ≤ length out

-- the writing has come to segment i and to the cell `at`
pub record Filling (σ : Store) (low high a to : ℕ) (out₀ : List ℕ) (i : ℕ) (out : List ℕ) (at : ℕ) : Type 0 where
  pub from : a ≤ i
  pub writing : Writing out₀ 0 (keys_in σ low high a to) out at (keys_in σ low high i to)
