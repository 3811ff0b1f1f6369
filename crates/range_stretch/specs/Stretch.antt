-- 01, refusal 9 of range: the segments of a stretch, each judged whole; and what one walk over a segment finds.
use Rattle.std.specs.Prelude.{Option, Some, None, Result, Ok, Err}
use Rattle.terms.specs.declared.Refusal.{Refusal}
use Rattle.terms.specs.declared.Refusal.TheVariants.{StoreWrong}
use Rattle.std.specs.Prelude.{Bool, not, List, ℕ, ◌+◌, ◌-◌, length}
use Rattle.lists.specs.Tests.{pick, both}
use Rattle.lists.specs.Between.{between}
use Rattle.terms.specs.Keys.{is_key, rising_from}
use Rattle.table.specs.Store.{Store}
use Rattle.table.specs.Entries.{entry_in}
use Rattle.table.specs.Damaged.{damaged_of}
use Rattle.table.specs.Reads.{merged_in, stretch_of}
use Rattle.scan.specs.Scan.{fails_of}
use Rattle.order.specs.Bound.{floor_of, above_of, last_of}
use Rattle.choose.specs.Stretch.{keys_in}

-- ---- the key before

-- "the key before it in the stretch", of the first key of segment i in the stretch from segment a on
abbrev pub before_in : Store → ℕ → ℕ → Option ℕ
before_in σ a i = last_of None (stretch_of σ a (i - a))

-- ---- the judgement

-- segment i is not one "that is damaged or has a merged key out of limits or not above the key before it in the stretch"
unfoldable pub fine_of : Store → ℕ → ℕ → Bool
fine_of σ a i = both (not (damaged_of σ.b σ.n (entry_in σ i))) (rising_from (floor_of (before_in σ a i)) (merged_in σ i))

-- by what a scan of the segments found
abbrev pub counted_by : ℕ → Option ℕ → Result ℕ Refusal
counted_by m (Some i) = Err (StoreWrong i)
counted_by m None = Ok m

-- "the lowest segment of the stretch" that is such; where none is, how many keys there are from low to high
unfoldable pub judged_of : Store → ℕ → ℕ → ℕ → ℕ → Result ℕ Refusal
judged_of σ low high a to = counted_by (length (keys_in σ low high a to)) (fails_of (fine_of σ a) a (to - a))

-- ---- one walk over merged keys that come after `before`, with `seen` keys from low to high before them

-- a key below the limit, and above the one before it
abbrev pub follows_of : Option ℕ → ℕ → Bool
follows_of before k = both (above_of before k) (is_key k)

-- whether they rise; their last key, and how many keys from low to high are seen with them
unfoldable pub walked_of : ℕ → ℕ → Option ℕ → ℕ → List ℕ → Option (Option ℕ × ℕ)
walked_of low high before seen ks =
    pick (rising_from (floor_of before) ks) (Some ((last_of before ks), (seen + length (between low high ks)))) None

-- of segment i
unfoldable pub seen_of : Store → ℕ → ℕ → ℕ → Option ℕ → ℕ → Option (Option ℕ × ℕ)
seen_of σ low high i before seen = pick (damaged_of σ.b σ.n (entry_in σ i)) None (walked_of low high before seen (merged_in σ i))
