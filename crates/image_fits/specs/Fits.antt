-- 01, 9 of image writing: "the lowest entry with a field that doesn't fit or held ≥ B, and place s if a key in a run needs over 6 bytes (a buffered key
-- counts to its segment)".
use Rattle.std.specs.Prelude.{Option, Some, None}
use Rattle.std.specs.Prelude.{Bool, List, [], ◌∷◌, ℕ, ◌+◌, ◌-◌, ◌*◌, ltb, get_or}
use Rattle.lists.specs.Tests.{pick, all}
use Rattle.scan.specs.Scan.{fails_of, none_of}
use Rattle.image_records.specs.Records.{fits_of}
use Rattle.image_records.specs.First.{first}
use Rattle.image_records.specs.Stores.{row_in}

-- a cell fits a record of these widths
unfoldable pub fits_at : List ℕ → List ℕ → ℕ → Bool
fits_at ws cells p = fits_of ws (get_or cells p 0 ∷ [])

-- each cell from `from` up to, and without, `to` does
abbrev pub cells_fit : List ℕ → List ℕ → ℕ → ℕ → Bool
cells_fit ws cells from to = none_of (fails_of (fits_at ws cells) from (to - from))

-- not "an entry with a field that doesn't fit or held ≥ B" ("a buffered key counts to its segment")
abbrev pub entry_tests : ℕ → List ℕ → List ℕ → ℕ → List Bool
entry_tests b t buffers i =
    fits_of first.segment.widths (row_in t i) ∷
    (ltb (get_or t (5 * i + 4) 0) b ∷ (cells_fit first.buffered.widths buffers (i * b) (i * b + get_or t (5 * i + 4) 0) ∷ []))

unfoldable pub entry_fits : ℕ → List ℕ → List ℕ → ℕ → Bool
entry_fits b t buffers i = all (entry_tests b t buffers i)

-- "place s if a key in a run needs over 6 bytes"
unfoldable pub run_wrong : ℕ → ℕ → List ℕ → Option ℕ
run_wrong n s keys = pick (cells_fit first.key.widths keys 0 n) None (Some s)

-- the first place, or else the second
abbrev pub or_else : Option ℕ → Option ℕ → Option ℕ
or_else (Some i) f = Some i
or_else None f = f

-- "the lowest entry .., and place s .."
unfoldable pub wrong_of : ℕ → ℕ → ℕ → List ℕ → List ℕ → List ℕ → Option ℕ
wrong_of b n s keys t buffers = or_else (fails_of (entry_fits b t buffers) 0 (s - 0)) (run_wrong n s keys)
