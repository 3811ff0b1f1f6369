-- A store as a list of segments, with no cells, positions or counts in it: what each segment is, when the list is in order, and the plain list that
-- it reads as.
use Rattle.std.specs.Prelude.{◌≡◌, List, [], ◌∷◌, ◌++◌, ℕ, ◌+◌, ◌-◌, ◌*◌, ◌/◌, ◌≤◌, ◌<◌, length, get_or}
use Rattle.lists.specs.Rising.{Up}
use Rattle.lists.specs.Merge.{merge, insert_sorted}
use Rattle.terms.specs.Limits.{key_limit, rise_most}
use Rattle.terms.specs.Keys.{IsKey}

-- a line, the keys of the run, and the keys that wait in used slots
pub record Seg : Type 0 where
  pub first : ℕ
  pub rise : ℕ
  pub run : ℕ
  pub keys : List ℕ
  pub used : List ℕ

-- the key m places into the run is guessed, and within e
pub record Close (e : ℕ) (x : Seg) (m : ℕ) : Type 0 where
  pub guessed : x.first ≤ get_or x.keys m 0
  pub not_above : m ≤ (get_or x.keys m 0 - x.first) * x.rise / x.run + e
  pub not_below : (get_or x.keys m 0 - x.first) * x.rise / x.run ≤ m + e

-- a segment that is in order by itself
pub record Fair (e b : ℕ) (x : Seg) : Type 0 where
  pub first_small : IsKey x.first
  pub run_some : 0 < x.run
  pub run_small : x.run < key_limit
  pub rise_limit : x.rise ≤ rise_most
  pub some : 0 < length x.keys
  pub first : get_or x.keys 0 0 ≡ x.first
  pub held : length x.used < b
  pub close : (m : ℕ) → m < length x.keys → Close e x m

-- where the keys of what stands before a list must end: its first key, and hi if it is empty
abbrev pub ceil : ℕ → List Seg → ℕ
ceil hi [] = hi
ceil hi (x ∷ xs) = x.first

-- the keys of one segment, in one list
abbrev pub all_of : Seg → List ℕ
all_of x = merge x.keys x.used

-- each segment is in order, and its keys rise strictly from lo on, or from its first key on if it is not the head, up to the next first key
abbrev pub Chain : ℕ → ℕ → ℕ → ℕ → List Seg → Type 0
Chain e b lo hi [] = Unit
Chain e b lo hi (x ∷ xs) = Fair e b x × (Up lo (ceil hi xs) (all_of x) × Chain e b (ceil hi xs) hi xs)

-- the plain list
abbrev pub reads_of : List Seg → List ℕ
reads_of [] = []
reads_of (x ∷ xs) = all_of x ++ reads_of xs

-- the runs alone
abbrev pub runs_of : List Seg → List ℕ
runs_of [] = []
runs_of (x ∷ xs) = x.keys ++ runs_of xs

-- ---- what an insert puts in the place of a segment

-- a buffered insert: k at its place among the used slots
abbrev pub buffered : ℕ → Seg → Seg
buffered k x = record { first = x.first; rise = x.rise; run = x.run; keys = x.keys; used = insert_sorted k x.used }

-- a merge: the run, the used slots and k in one list
abbrev pub merged_list : ℕ → Seg → List ℕ
merged_list k x = merge x.keys (insert_sorted k x.used)

-- no segment holds anything
abbrev pub Bare : List Seg → Type 0
Bare [] = Unit
Bare (x ∷ xs) = (x.used ≡ []) × Bare xs

abbrev pub Fairs : ℕ → ℕ → List Seg → Type 0
Fairs e b [] = Unit
Fairs e b (x ∷ xs) = Fair e b x × Fairs e b xs

-- what the cut of a list must be: segments in order that hold nothing, and whose runs make up the list
pub record Cutting (e b : ℕ) (l : List ℕ) (new : List Seg) : Type 0 where
  pub fair : Fairs e b new
  pub bare : Bare new
  pub whole : runs_of new ≡ l
