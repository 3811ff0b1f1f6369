-- What the steps of the judging pass ask.
use Rattle.std.specs.Prelude.{List, ℕ, ◌≤◌, ◌<◌, length}
use Rattle.image_records.specs.declared.Kind.{Kind}
use Rattle.image_records.specs.declared.Layout.{Layout}

pub record Ready (k : Kind) (bytes : List ℕ) (at : ℕ) : Type 0 where
  pub inside : at ≤ length bytes
  pub some : 1 ≤ k.size

-- no record is empty, a head has its four numbers, a segment the byte that says what it holds
pub record Laid (f : Layout) : Type 0 where
  pub head : 9 ≤ f.head.size
  pub key : 1 ≤ f.key.size
  pub segment : f.held < f.segment.size
  pub buffered : 1 ≤ f.buffered.size
  pub end : 1 ≤ f.end.size

pub record Readable (f : Layout) (bytes : List ℕ) (at : ℕ) : Type 0 where
  pub inside : at ≤ length bytes
  pub laid : Laid f
