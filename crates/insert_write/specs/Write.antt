-- What the functions that write an insert ask, and what each leaves of the slice that it changes.
use Rattle.std.specs.Prelude.{◌≡◌, List, ◌++◌, ℕ, ◌+◌, ◌-◌, ◌*◌, ◌^◌, ◌≤◌, ◌<◌, length, get_or, take, drop}
use Rattle.lists.specs.Merge.{place_of}
use Rattle.terms.specs.Limits.{n_most, b_most}
use Rattle.terms.specs.Keys.{RisingKeys}
use Rattle.terms.specs.declared.Entry.{Entry}
use Rattle.terms.specs.declared.Sizes.{Sizes}
use Rattle.table.specs.Store.{Store, in_use}
use Rattle.table.specs.Limits.{Limits, key_room, segment_room}
use Rattle.table.specs.Entries.{Row, entry_of, entry_in, used_of}
use Rattle.table.specs.Damaged.{Sound}
use Rattle.cone.specs.Rule.{cut}
use Rattle.cone.specs.Keys.{Cuttable}
use Rattle.cutting.specs.Rows.{rows_of}
use Rattle.moves.specs.Tail.{raised_up}
use Rattle.insert_write.specs.Merged.{merged_at, Passes}

-- ---- buffered

-- x is the entry of segment i, which has a free slot, and `slot` is k's place among its used ones
pub record Holding (z : Sizes) (table buffers : List ℕ) (i : ℕ) (x : Entry) (slot k : ℕ) : Type 0 where
  pub entry : x ≡ entry_of z.n z.s table i
  pub row : Row table z.s i
  pub few : x.held ≤ b_most
  pub room : i * z.b + (x.held + 1) ≤ length buffers
  pub small : i * z.b + (x.held + 1) < 2 ^ 64
  pub place : slot ≡ place_of k (used_of z.b buffers i x.held)

-- ---- merged: the keys

-- with k the used slots are b keys, and the key slice has room for them
pub record Joinable (b n : ℕ) (x : Entry) (keys used : List ℕ) : Type 0 where
  pub some : x.base.0 < x.end.0
  pub inside : x.end.0 ≤ n
  pub full : length used + 1 ≡ b
  pub room : n + b ≤ length keys

-- ---- merged: the used slots of the later segments, and their entries

-- "their used buffer slots move with them": there is room, and none holds more than b
pub record SlotsLater (b s : ℕ) (table buffers : List ℕ) (i t : ℕ) : Type 0 where
  pub inside : i < s
  pub some : 1 ≤ t
  pub table_held : 5 * s ≤ length table
  pub few : (m : ℕ) → i < m → m < s → get_or table (5 * m + 4) 0 ≤ b
  pub start : (i + 1) * b ≤ length buffers
  pub room : (s - 1 + t) * b ≤ length buffers
  pub small : (s - 1 + t) * b < 2 ^ 64

-- "later entries move by t−1 places, their bases grow by B"
unfoldable pub rows_up : ℕ → ℕ → ℕ → ℕ → List ℕ → List ℕ
rows_up b s i t table = take (5 * (i + 1)) table ++ raised_up (s - (i + 1)) (t - 1) b (drop (5 * (i + 1)) table)

pub record RowsLater (b s : ℕ) (table : List ℕ) (i t : ℕ) : Type 0 where
  pub inside : i < s
  pub some : 1 ≤ t
  pub b_limit : b ≤ b_most
  pub few : (m : ℕ) → i < m → m < s → get_or table (5 * m + 1) 0 ≤ n_most
  pub room : 5 * (s - 1 + t) ≤ length table

-- both
pub record Later (b s : ℕ) (table buffers : List ℕ) (i t : ℕ) : Type 0 where
  pub slots : SlotsLater b s table buffers i t
  pub rows : RowsLater b s table i t

-- ---- merged: the new entries

-- the part of the key slice that the merged list takes
abbrev pub joined_part : ℕ → Entry → List ℕ → List ℕ
joined_part b x keys = take (x.end.0 + b - x.base.0) (drop x.base.0 keys)

-- "that list alone is cut with e; the t new segments replace the old one"
unfoldable pub recut_table : ℕ → ℕ → Entry → List ℕ → ℕ → List ℕ → List ℕ
recut_table e b x keys i table =
    take (5 * i) table ++ (rows_of x.base.0 (cut e (joined_part b x keys)) ++ drop (5 * length (cut e (joined_part b x keys))) (drop (5 * i) table))

pub record Recuttable (e b : ℕ) (x : Entry) (keys : List ℕ) (i t : ℕ) (table : List ℕ) : Type 0 where
  pub some : x.base.0 < x.end.0
  pub most : x.end.0 + b ≤ n_most
  pub room : x.end.0 + b ≤ length keys
  pub keys_rise : Cuttable e (joined_part b x keys)
  pub pieces : t ≡ length (cut e (joined_part b x keys))
  pub rows : 5 * i + 5 * t ≤ length table

-- ---- merged: all of it

-- x is the entry of segment i, the merged list rises and is cut into t, and there is room for it
pub record Mergeable (σ : Store) (i : ℕ) (x : Entry) (t k : ℕ) : Type 0 where
  pub limits : Limits σ
  pub inside : i < σ.s
  pub entry : x ≡ entry_in σ i
  pub sound : Sound σ.b σ.n x
  pub full : σ.b ≤ x.held + 1
  pub rising : RisingKeys (merged_at σ i x k)
  pub pieces : t ≡ length (cut (in_use σ) (merged_at σ i x k))
  pub later : (j : ℕ) → i < j → j < σ.s → Passes σ j
  pub room_for_keys : σ.n + σ.b ≤ key_room σ.keys
  pub room_for_segments : σ.s - 1 + t ≤ segment_room σ.b σ.table σ.buffers
