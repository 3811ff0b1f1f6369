-- 01, "Order: head, n of kind 2, then per segment a kind 3 and as many kind 4 as it holds, then the end and no further byte."
-- Over any edition: which kinds and widths there are is data (First.antt).
use Rattle.std.specs.Prelude.{Result, Ok, Err}
use Rattle.std.specs.Prelude.{◌≡◌, Bool, List, [], ◌∷◌, ◌++◌, ℕ, zero, suc, ◌+◌, ◌<◌, leb, ltb, length, get_or}
use Rattle.lists.specs.Tests.{pick, all}
use Rattle.image_little.specs.Little.{get_at}
use Rattle.image_records.specs.Records.{Shape, kind_of, record_bytes, many_bytes, size, stands_at, record_at, walk_of, many_at, after_of, and_then, Fit, FitAll}
use Rattle.image_records.specs.declared.Layout.{Layout}

-- an edition: the shapes of the five records. A head is e, B, n, s; the fifth number of a segment is held, one byte, `held` bytes on in its record.
pub record Edition : Type 0 where
  pub head : Shape
  pub key : Shape
  pub segment : Shape
  pub buffered : Shape
  pub end : Shape
  pub held : ℕ

-- what its order and length rules go by
abbrev pub layout_of : Edition → Layout
layout_of ed =
    record {
      head = kind_of ed.head;
      key = kind_of ed.key;
      segment = kind_of ed.segment;
      buffered = kind_of ed.buffered;
      end = kind_of ed.end;
      held = ed.held;
    }

-- a segment's record and those of its buffered keys
pub record Part : Type 0 where
  pub numbers : List ℕ
  pub held : List (List ℕ)

-- all that an image says: the numbers of each record
pub record Image : Type 0 where
  pub head : List ℕ
  pub keys : List (List ℕ)
  pub parts : List Part

-- ---- written

-- "per segment a kind 3 and as many kind 4 as it holds"
unfoldable pub part_bytes : Edition → List Part → List ℕ
part_bytes ed [] = []
part_bytes ed (p ∷ ps) = record_bytes ed.segment p.numbers ++ (many_bytes ed.buffered p.held ++ part_bytes ed ps)

-- "head, n of kind 2, then per segment .., then the end and no further byte"
unfoldable pub image_bytes : Edition → Image → List ℕ
image_bytes ed v =
    record_bytes ed.head v.head ++ (many_bytes ed.key v.keys ++ (part_bytes ed v.parts ++ record_bytes ed.end []))

-- ---- judged: past the last byte, or at the record that is "10: a wrong kind, a record cut short, held ≥ B, or bytes after the end"

-- how many buffered keys the segment at an offset says it holds
unfoldable pub held_at : Layout → List ℕ → ℕ → ℕ
held_at f bytes at = get_at bytes (at + f.held) 1

-- a segment stands there and holds fewer than B
unfoldable pub segment_at : Layout → ℕ → List ℕ → ℕ → Bool
segment_at f b bytes at = all (stands_at f.segment bytes at ∷ (ltb (held_at f bytes at) b ∷ []))

-- one segment with its buffered keys
unfoldable pub part_of : Layout → ℕ → List ℕ → ℕ → Result ℕ ℕ
part_of f b bytes at =
    pick (segment_at f b bytes at) (walk_of f.buffered bytes (held_at f bytes at) (at + f.segment.size)) (Err at)

-- s of them
unfoldable pub parts_of : Layout → ℕ → List ℕ → ℕ → ℕ → Result ℕ ℕ
parts_of f b bytes zero at = Ok at
parts_of f b bytes (suc s) at = and_then (part_of f b bytes at) (λ z. parts_of f b bytes s z)

-- "the end and no further byte"; "bytes after the end (offset of the first of them)"
unfoldable pub end_of : Layout → List ℕ → ℕ → Result ℕ ℕ
end_of f bytes at =
    pick (stands_at f.end bytes at) (pick (leb (length bytes) (at + f.end.size)) (Ok (at + f.end.size)) (Err (at + f.end.size))) (Err at)

-- all that follows the head
unfoldable pub rest_of : Layout → List ℕ → ℕ → ℕ → ℕ → ℕ → Result ℕ ℕ
rest_of f bytes b n s at =
    and_then (walk_of f.key bytes n at) (λ k. and_then (parts_of f b bytes s k) (λ z. end_of f bytes z))

-- ---- read: what the bytes say

abbrev pub part_at : Edition → List ℕ → ℕ → Part
part_at ed bytes at =
    record { numbers = record_at ed.segment bytes at; held = many_at ed.buffered.widths bytes (held_at (layout_of ed) bytes at) (at + size ed.segment) }

abbrev pub after_part : Edition → List ℕ → ℕ → ℕ
after_part ed bytes at = after_of (kind_of ed.buffered) (held_at (layout_of ed) bytes at) (at + size ed.segment)

unfoldable pub parts_at : Edition → List ℕ → ℕ → ℕ → List Part
parts_at ed bytes zero at = []
parts_at ed bytes (suc s) at = part_at ed bytes at ∷ parts_at ed bytes s (after_part ed bytes at)

abbrev pub head_at : Edition → List ℕ → List ℕ
head_at ed bytes = record_at ed.head bytes 0

unfoldable pub image_at : Edition → List ℕ → Image
image_at ed bytes =
    record {
      head = head_at ed bytes;
      keys = many_at ed.key.widths bytes (get_or (head_at ed bytes) 2 0) (size ed.head);
      parts = parts_at ed bytes (get_or (head_at ed bytes) 3 0) (after_of (kind_of ed.key) (get_or (head_at ed bytes) 2 0) (size ed.head));
    }

-- whether the bytes are an image, but for the limits
unfoldable pub well_of : Edition → List ℕ → Result ℕ ℕ
well_of ed bytes =
    pick (stands_at (kind_of ed.head) bytes 0)
    (rest_of (layout_of ed) bytes (get_or (head_at ed bytes) 1 0) (get_or (head_at ed bytes) 2 0) (get_or (head_at ed bytes) 3 0) (size ed.head)) (Err 0)

-- ---- what the laws ask of an image and of an edition

-- an image that can be written: its numbers fit, and it holds as many keys and segments as it says
pub record GoodPart (ed : Edition) (b : ℕ) (p : Part) : Type 0 where
  pub fits : Fit ed.segment.widths p.numbers
  pub fit : FitAll ed.buffered.widths p.held
  pub counts : get_or p.numbers 4 0 ≡ length p.held
  pub few : length p.held < b

abbrev pub GoodParts : Edition → ℕ → List Part → Type 0
GoodParts ed b [] = Unit
GoodParts ed b (p ∷ ps) = GoodPart ed b p × GoodParts ed b ps

pub record Good (ed : Edition) (v : Image) : Type 0 where
  pub head_fits : Fit ed.head.widths v.head
  pub keys_fit : FitAll ed.key.widths v.keys
  pub keys_count : get_or v.head 2 0 ≡ length v.keys
  pub parts_good : GoodParts ed (get_or v.head 1 0) v.parts
  pub parts_count : get_or v.head 3 0 ≡ length v.parts

-- an edition whose end holds no number, and whose segments say where they say it how many keys they hold
pub record Proper (ed : Edition) : Type 0 where
  pub end_empty : Fit ed.end.widths []
  pub held_fifth : (bytes : List ℕ) (at : ℕ) → get_at bytes (at + ed.held) 1 ≡ get_or (record_at ed.segment bytes at) 4 0
