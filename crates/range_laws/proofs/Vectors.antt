-- Range on the store that 01 prints, and on the same store with cells changed.
-- Assumes nothing.
use Rattle.std.specs.Prelude.{Ok, Err}
use mathlib.Core.Path.{◌≡◌, refl}
use mathlib.Core.List.{[], ◌∷◌}
use Prim.Native.Nat.{ℕ}
use Rattle.lists.specs.Tests.{all, any}
use Rattle.lists.specs.Moved.{followed}
use Rattle.lists.specs.Merge.{turns_of, merge}
use Rattle.lists.specs.Rising.{up_of}
use Rattle.lists.specs.Between.{between}
use Rattle.lists.specs.Over.{over}
use Rattle.terms.specs.Limits.{key_limit, sizes_of}
use Rattle.terms.specs.declared.Refusal.TheVariants.{LargeKey, Backwards, OutRoom, StoreWrong}
use Rattle.table.specs.Store.{Store, store_of}
use Rattle.table.specs.Limits.{limited_of}
use Rattle.table.specs.Entries.{entry_of}
use Rattle.table.specs.Damaged.{damaged_of}
use Rattle.choose.specs.Chosen.{chosen_of}
use Rattle.choose.specs.Stretch.{keys_from}
use Rattle.table.specs.Reads.{stretch_of}
use Rattle.scan.specs.Scan.{first_passing, fails_of}
use Rattle.order.specs.Bound.{last_of}
use Rattle.range_stretch.specs.Stretch.{fine_of, judged_of}
use Rattle.range.specs.Range.{stretched_of, chosen_range_of, range_of, out_by}

-- with these keys at positions 0 and 2, and this key in segment 1's first slot, of which it holds so many
abbrev printed : ℕ → ℕ → ℕ → ℕ → Store
printed nought two slot held =
    store_of (sizes_of 1 2 6 2) (nought ∷ (20 ∷ (two ∷ (100 ∷ (110 ∷ (120 ∷ []))))))
    (10 ∷ (0 ∷ (2 ∷ (20 ∷ (0 ∷ (100 ∷ (3 ∷ (2 ∷ (20 ∷ (held ∷ []))))))))))
    (0 ∷ (0 ∷ (slot ∷ (0 ∷ []))))

-- both ends belong, and a buffered key stands in its place
across : range_of (printed 10 30 105 1) 30 110 6 ≡ Ok 4
unfolding range_of chosen_range_of stretched_of judged_of fine_of last_of fails_of first_passing limited_of damaged_of all any entry_of chosen_of stretch_of merge turns_of followed up_of between
across = refl

-- they are written from the out slice's start, and the rest of it stays
written : out_by (keys_from (printed 10 30 105 1) 30 110) (Ok 4) (7 ∷ (7 ∷ (7 ∷ (7 ∷ (7 ∷ (7 ∷ [])))))) ≡ 30 ∷ (100 ∷ (105 ∷ (110 ∷ (7 ∷ (7 ∷ [])))))
unfolding over entry_of chosen_of stretch_of merge turns_of followed between
written = refl

-- each segment of the stretch is judged whole
judged_whole : range_of (printed 21 30 0 0) 25 31 6 ≡ Err (StoreWrong 0)
unfolding range_of chosen_range_of stretched_of judged_of fine_of last_of fails_of first_passing limited_of damaged_of all any entry_of chosen_of stretch_of merge turns_of followed up_of between
judged_whole = refl

-- a key that is not above the last one of the segment before is its own segment's fault
later_fault : range_of (printed 10 105 0 0) 25 120 6 ≡ Err (StoreWrong 1)
unfolding range_of chosen_range_of stretched_of judged_of fine_of last_of fails_of first_passing limited_of damaged_of all any entry_of chosen_of stretch_of merge turns_of followed up_of between
later_fault = refl

-- but the first key of the stretch has none before it
none_before : range_of (printed 10 105 0 0) 100 120 6 ≡ Ok 3
unfolding range_of chosen_range_of stretched_of judged_of fine_of last_of fails_of first_passing limited_of damaged_of all any entry_of chosen_of stretch_of merge turns_of followed up_of between
none_before = refl

-- one key more than the out slice holds
too_many : range_of (printed 10 30 0 0) 0 120 5 ≡ Err OutRoom
unfolding range_of chosen_range_of stretched_of judged_of fine_of last_of fails_of first_passing limited_of damaged_of all any entry_of chosen_of stretch_of merge turns_of followed up_of between
too_many = refl

-- 2 before 4
large_low : range_of (printed 10 30 0 0) key_limit 0 6 ≡ Err (LargeKey (record { 0 = 0 }))
unfolding range_of limited_of all
large_low = refl

backwards : range_of (printed 10 30 0 0) 30 29 6 ≡ Err Backwards
unfolding range_of limited_of all
backwards = refl
