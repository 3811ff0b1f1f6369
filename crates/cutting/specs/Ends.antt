-- How many keys a segment has, and the cut of the keys that are left: the cut as code makes it, one segment at a time.
use Rattle.std.specs.Prelude.{List, [], ℕ, zero, suc, ◌+◌, ◌-◌, ◌<◌, ltb, length}
use Rattle.lists.specs.Tests.{pick}
use Rattle.cone.specs.Rule.{joins, Segment, cut_from}
use Rattle.cone.specs.Keys.{Cuttable}

-- an open segment of c keys from position i on, with r keys to come: how many keys it will have
unfoldable pub size_from : ℕ → List ℕ → ℕ → ℕ → ℕ → ℕ
size_from e ks i c zero = c
size_from e ks i c (suc r) = pick (joins e ks i c) (size_from e ks i (suc c) r) c

-- the segment whose origin is i
unfoldable pub size_of : ℕ → List ℕ → ℕ → ℕ
size_of e ks i = size_from e ks i 1 (length ks - (i + 1))

-- the cut of the keys from position i on
unfoldable pub cut_at : ℕ → List ℕ → ℕ → List Segment
cut_at e ks i = pick (ltb i (length ks)) (cut_from e ks i 1 (length ks - (i + 1))) []

-- what the search for the first segment's end asks
pub record Startable (e : ℕ) (ks : List ℕ) : Type 0 where
  pub keys : Cuttable e ks
  pub some : 0 < length ks
