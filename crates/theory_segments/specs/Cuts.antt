-- The cut of a list of keys, as segments that hold nothing; and the cells that a list of segments takes in the table.
use Rattle.std.specs.Prelude.{List, [], ◌∷◌, ℕ, ◌+◌, length, take, drop}
use Rattle.cone.specs.Rule.{Segment, cut}
use Rattle.theory_segments.specs.Seg.{Seg}

abbrev pub seg_by : List ℕ → Segment → Seg
seg_by ks x = record { first = x.first; rise = x.rise; run = x.run; keys = take (x.rise + 1) (drop x.base ks); used = [] }

abbrev pub segs_by : List ℕ → List Segment → List Seg
segs_by ks [] = []
segs_by ks (x ∷ xs) = seg_by ks x ∷ segs_by ks xs

abbrev pub cut_segs : ℕ → List ℕ → List Seg
cut_segs e ks = segs_by ks (cut e ks)

-- the entries of segments whose runs start at `at`, one after the other
abbrev pub rows : ℕ → List Seg → List ℕ
rows at [] = []
rows at (x ∷ xs) = x.first ∷ (at ∷ (x.rise ∷ (x.run ∷ (length x.used ∷ rows (at + length x.keys) xs))))
