-- The image of a lent store: its numbers, the n keys, and per segment its five numbers and its used slots. And the cells that an image fills.
use Rattle.std.specs.Prelude.{List, [], ◌∷◌, ◌++◌, ◌⊎◌, ℕ, zero, suc, ◌+◌, ◌*◌, ◌≤◌, ◌<◌, length, get_or}
use Rattle.lists.specs.Over.{over, Shows}
use Rattle.terms.specs.declared.Sizes.{Sizes}
use Rattle.terms.specs.Limits.{sizes_of}
use Rattle.table.specs.Store.{Store, store_of}
use Rattle.image_records.specs.Images.{Part, Image}

-- ---- the image of a store

-- `count` cells, each as the one number of a record
unfoldable pub singles_in : List ℕ → ℕ → ℕ → List (List ℕ)
singles_in cells from zero = []
singles_in cells from (suc count) = (get_or cells from 0 ∷ []) ∷ singles_in cells (from + 1) count

-- segment i's "first key, base, rise, run, held"
abbrev pub row_in : List ℕ → ℕ → List ℕ
row_in t i = get_or t (5 * i) 0 ∷ (get_or t (5 * i + 1) 0 ∷ (get_or t (5 * i + 2) 0 ∷ (get_or t (5 * i + 3) 0 ∷ (get_or t (5 * i + 4) 0 ∷ []))))

-- and "the B slots from i·B; the first held are used"
abbrev pub part_in : ℕ → List ℕ → List ℕ → ℕ → Part
part_in b t buffers i = record { numbers = row_in t i; held = singles_in buffers (i * b) (get_or t (5 * i + 4) 0) }

-- `count` segments from i on
unfoldable pub parts_in : ℕ → List ℕ → List ℕ → ℕ → ℕ → List Part
parts_in b t buffers i zero = []
parts_in b t buffers i (suc count) = part_in b t buffers i ∷ parts_in b t buffers (i + 1) count

unfoldable pub image_in : Store → Image
image_in σ =
    record {
      head = σ.e ∷ (σ.b ∷ (σ.n ∷ (σ.s ∷ [])));
      keys = singles_in σ.keys 0 σ.n;
      parts = parts_in σ.b σ.table σ.buffers 0 σ.s;
    }

-- ---- the store that an image fills: "Reading fixes the used cells only"

-- the first number of each record
unfoldable pub firsts : List (List ℕ) → List ℕ
firsts [] = []
firsts (r ∷ rs) = get_or r 0 0 ∷ firsts rs

-- the table's cells
unfoldable pub rows_of : List Part → List ℕ
rows_of [] = []
rows_of (p ∷ ps) = p.numbers ++ rows_of ps

-- the used slots of the segments from i on
unfoldable pub slots_by : ℕ → List Part → ℕ → List ℕ → List ℕ
slots_by b [] i buffers = buffers
slots_by b (p ∷ ps) i buffers = slots_by b ps (i + 1) (over buffers (i * b) (firsts p.held))

-- "e, B, n, s": the numbers of its head
abbrev pub head_sizes : Image → Sizes
head_sizes v = sizes_of (get_or v.head 0 0) (get_or v.head 1 0) (get_or v.head 2 0) (get_or v.head 3 0)

-- these, and the three slices after it
abbrev pub filled_of : Image → List ℕ → List ℕ → List ℕ → Store
filled_of v keys table buffers =
    store_of (head_sizes v) (over keys 0 (firsts v.keys)) (over table 0 (rows_of v.parts)) (slots_by (head_sizes v).b v.parts 0 buffers)

-- each part's keys stand in its slots
abbrev pub SlotsShow : ℕ → List ℕ → ℕ → List Part → Type 0
SlotsShow b buffers i [] = Unit
SlotsShow b buffers i (p ∷ ps) = Shows buffers (i * b) (firsts p.held) × SlotsShow b buffers (i + 1) ps

-- q is none of the slots that the parts' keys take
abbrev pub Apart : ℕ → ℕ → ℕ → List Part → Type 0
Apart b q i [] = Unit
Apart b q i (p ∷ ps) = ((q < i * b) ⊎ (i * b + length p.held ≤ q)) × Apart b q (i + 1) ps
