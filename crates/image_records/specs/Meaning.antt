-- 10's places, with no walk in them: the first record, in the order of the image, that does not stand, or the first byte after the end.
-- Over any edition's kinds and lengths.
use Rattle.std.specs.Prelude.{Result, Ok, Err}
use Rattle.std.specs.Prelude.{◌≡◌, List, ℕ, zero, suc, ◌+◌, ◌≤◌, ◌<◌, length}
use Rattle.image_records.specs.Records.{Stands, after_of}
use Rattle.image_records.specs.Images.{held_at}
use Rattle.image_records.specs.declared.Kind.{Kind}
use Rattle.image_records.specs.declared.Layout.{Layout}

-- ---- a row of records of one kind, from `at` on: record j starts after the j before it

-- the first `count` of them stand
abbrev pub Row : Kind → List ℕ → ℕ → ℕ → Type 0
Row k l at count = (j : ℕ) → j < count → Stands k l (after_of k j at)

-- p is the offset of the first that does not
pub record RowBroken (k : Kind) (l : List ℕ) (at count p : ℕ) : Type 0 where
  pub number : ℕ
  pub below : number < count
  pub before : Row k l at number
  pub here : Stands k l (after_of k number at) → ⊥
  pub place : p ≡ after_of k number at

-- ---- segments: each record of one, then its buffered keys

-- its record stands, and it holds fewer than B
pub record Segment (f : Layout) (b : ℕ) (l : List ℕ) (at : ℕ) : Type 0 where
  pub stands : Stands f.segment l at
  pub few : held_at f l at < b

-- and its buffered keys stand
pub record Whole (f : Layout) (b : ℕ) (l : List ℕ) (at : ℕ) : Type 0 where
  pub segment : Segment f b l at
  pub keys : Row f.buffered l (at + f.segment.size) (held_at f l at)

-- p is the offset of the first of these records that does not stand, or of the segment that holds B or more
pub data Broken (f : Layout) (b : ℕ) (l : List ℕ) (at : ℕ) : ℕ → Type 0 where
  segment_broken : (Segment f b l at → ⊥) → Broken f b l at at
  key_broken : {p : ℕ} → Segment f b l at → RowBroken f.buffered l (at + f.segment.size) (held_at f l at) p → Broken f b l at p

-- segment i starts after the i before it
unfoldable pub segment_place : Layout → List ℕ → ℕ → ℕ → ℕ
segment_place f l zero at = at
segment_place f l (suc i) at = segment_place f l i (after_of f.buffered (held_at f l at) (at + f.segment.size))

-- the first s segments stand
abbrev pub Segments : Layout → ℕ → List ℕ → ℕ → ℕ → Type 0
Segments f b l at s = (i : ℕ) → i < s → Whole f b l (segment_place f l i at)

-- p is the offset of the first fault in them
pub record SegmentsBroken (f : Layout) (b : ℕ) (l : List ℕ) (at s p : ℕ) : Type 0 where
  pub number : ℕ
  pub below : number < s
  pub before : Segments f b l at number
  pub here : Broken f b l (segment_place f l number at) p

-- ---- all that follows the head

-- n run keys, s segments with their keys
pub record Body (f : Layout) (l : List ℕ) (b n s at : ℕ) : Type 0 where
  pub keys : Row f.key l at n
  pub segments : Segments f b l (after_of f.key n at) s

-- where the end starts
abbrev pub end_place : Layout → List ℕ → ℕ → ℕ → ℕ → ℕ
end_place f l n s at = segment_place f l s (after_of f.key n at)

-- the order of the image: well formed up to its last byte; or the offset of the first fault
pub data Rest (f : Layout) (l : List ℕ) (b n s at : ℕ) : Result ℕ ℕ → Type 0 where
  whole : Body f l b n s at → Stands f.end l (end_place f l n s at) → length l ≤ end_place f l n s at + f.end.size →
      Rest f l b n s at (Ok (end_place f l n s at + f.end.size))
  run_broken : {p : ℕ} → RowBroken f.key l at n p → Rest f l b n s at (Err p)
  segments_broken : {p : ℕ} → Row f.key l at n → SegmentsBroken f b l (after_of f.key n at) s p → Rest f l b n s at (Err p)
  end_broken : Body f l b n s at → (Stands f.end l (end_place f l n s at) → ⊥) → Rest f l b n s at (Err (end_place f l n s at))
  more_bytes : Body f l b n s at → Stands f.end l (end_place f l n s at) → end_place f l n s at + f.end.size < length l →
      Rest f l b n s at (Err (end_place f l n s at + f.end.size))
