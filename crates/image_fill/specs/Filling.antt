-- What the steps of the filling pass ask. What they put over the cells is what the form says of the bytes (image_records).
use Rattle.std.specs.Prelude.{Ok}
use Rattle.std.specs.Prelude.{◌≡◌, List, ℕ, ◌+◌, ◌*◌, ◌≤◌, ◌<◌, length}
use Rattle.terms.specs.declared.Sizes.{Sizes}
use Rattle.terms.specs.Limits.{b_most, s_most}
use Rattle.lists.specs.Over.{Writing}
use Rattle.table.specs.Store.{store_of}
use Rattle.table.specs.Limits.{Limits}
use Rattle.image_records.specs.Images.{layout_of, held_at, parts_of, after_part, parts_at, image_at}
use Rattle.image_records.specs.First.{first}
use Rattle.image_records.specs.Stores.{rows_of, slots_by, head_sizes}

pub record KeysFill (bytes : List ℕ) (at : ℕ) (cells : List ℕ) (to count : ℕ) : Type 0 where
  pub records : at + 7 * count ≤ length bytes
  pub room : to + count ≤ length cells

pub record RowFill (bytes : List ℕ) (at : ℕ) (table : List ℕ) (i : ℕ) : Type 0 where
  pub inside : at + 18 ≤ length bytes
  pub row : 5 * i + 5 ≤ length table
  pub few : i < s_most

pub record PieceFill (bytes : List ℕ) (at b : ℕ) (table buffers : List ℕ) (i : ℕ) : Type 0 where
  pub stands : at + 18 ≤ length bytes
  pub inside : after_part first bytes at ≤ length bytes
  pub row : 5 * i + 5 ≤ length table
  pub few : i < s_most
  pub small : b ≤ b_most
  pub slots : i * b + held_at (layout_of first) bytes at ≤ length buffers

-- all the segments: the judging pass came past them
pub record PiecesFill (bytes : List ℕ) (at b : ℕ) (table buffers : List ℕ) (s : ℕ) : Type 0 where
  pub last : ℕ
  pub judged : parts_of (layout_of first) b bytes s at ≡ Ok last
  pub rows : 5 * s ≤ length table
  pub few : s ≤ s_most
  pub small : b ≤ b_most
  pub slots : s * b ≤ length buffers

-- the loop: segments from i on are left, from byte p on
pub record Filling (bytes : List ℕ) (at b : ℕ) (t₀ bs₀ : List ℕ) (s : ℕ) (t bs : List ℕ) (p i left : ℕ) : Type 0 where
  pub rows : Writing t₀ 0 (rows_of (parts_at first bytes s at)) t (5 * i) (rows_of (parts_at first bytes left p))
  pub slots : slots_by b (parts_at first bytes left p) i bs ≡ slots_by b (parts_at first bytes s at) 0 bs₀
  pub same : length bs ≡ length bs₀
  pub counts : i + left ≡ s
  pub last : ℕ
  pub judged : parts_of (layout_of first) b bytes left p ≡ Ok last

-- the whole: the head says these counts, the slices have room for them, and the judging pass came past the records
pub record ImageFill (bytes : List ℕ) (z : Sizes) (keys table buffers : List ℕ) : Type 0 where
  pub told : z ≡ head_sizes (image_at first bytes)
  pub limits : Limits (store_of z keys table buffers)
  pub run : 9 + 7 * z.n ≤ length bytes
  pub last : ℕ
  pub judged : parts_of (layout_of first) z.b bytes z.s (9 + 7 * z.n) ≡ Ok last
