-- The printed store's image, and what writing and reading say of it whole, cut short, spoilt, and into slices too short. Computed.
-- Assumes nothing.
use Rattle.std.specs.Prelude.{Result, Ok, Err}
use Rattle.terms.specs.declared.Refusal.{Refusal}
use Rattle.terms.specs.declared.Sizes.{Sizes}
use mathlib.Core.Path.{◌≡◌, refl}
use mathlib.Core.List.{List, [], ◌∷◌, ◌++◌}
use Prim.Native.Nat.{ℕ, ◌-◌, ◌^◌}
use lib.ListN.{length, take, set}
use Rattle.terms.specs.declared.Refusal.TheVariants.{Limits, KeyRoom, SegmentRoom, OutRoom, StoreWrong, Malformed}
use Rattle.lists.specs.Tests.{all}
use Rattle.image_little.specs.Little.{number_bytes, get_at}
use Rattle.scan.specs.Scan.{first_passing, fails_of}
use Rattle.terms.specs.Limits.{sizes_of}
use Rattle.table.specs.Store.{Store, store_of}
use Rattle.table.specs.Limits.{counted_of, limited_of}
use Rattle.image_records.specs.Records.{field_bytes, record_bytes, many_bytes, fits_of, total, stands_at, walk_of}
use Rattle.image_records.specs.Images.{part_bytes, image_bytes, held_at, segment_at, part_of, parts_of, end_of, rest_of}
use Rattle.image_records.specs.First.{first}
use Rattle.image_records.specs.Stores.{singles_in, parts_in, image_in}
use Rattle.image_judge.specs.Judging.{headed_of, judged_of}
use Rattle.image_read.specs.Loading.{keys_held, segments_held, roomed_of, load_of}
use Rattle.image_fits.specs.Fits.{fits_at, entry_fits, run_wrong, wrong_of}
use Rattle.image_write.specs.Writing.{length_of, fitted_of, write_of}

-- the printed store in slices of 16, 40 and 16 cells; what it does not use is 7
abbrev keys : List ℕ
keys = (10 ∷ (20 ∷ (30 ∷ (100 ∷ (110 ∷ (120 ∷ (7 ∷ (7 ∷ (7 ∷ (7 ∷ (7 ∷ (7 ∷ (7 ∷ (7 ∷ (7 ∷ (7 ∷ []))))))))))))))))

abbrev table : List ℕ
table = (10 ∷ (0 ∷ (2 ∷ (20 ∷ (0 ∷ (100 ∷ (3 ∷ (2 ∷ (20 ∷ (0 ∷ (7 ∷ (7 ∷ (7 ∷ (7 ∷ (7 ∷ (7 ∷ (7 ∷ (7 ∷ (7 ∷ (7 ∷ (7 ∷ (7 ∷ (7 ∷ (7 ∷ (7 ∷ (7 ∷ (7 ∷ (7 ∷ (7 ∷ (7 ∷ (7 ∷ (7 ∷ (7 ∷ (7 ∷ (7 ∷ (7 ∷ (7 ∷ (7 ∷ (7 ∷ (7 ∷ []))))))))))))))))))))))))))))))))))))))))

abbrev slots : List ℕ
slots = (7 ∷ (7 ∷ (7 ∷ (7 ∷ (7 ∷ (7 ∷ (7 ∷ (7 ∷ (7 ∷ (7 ∷ (7 ∷ (7 ∷ (7 ∷ (7 ∷ (7 ∷ (7 ∷ []))))))))))))))))

abbrev printed : Store
printed = store_of (sizes_of 1 2 6 2) keys table slots

-- the same with other keys and another table
abbrev tabled : List ℕ → List ℕ → Store
tabled ks t = store_of (sizes_of 1 2 6 2) ks t slots

abbrev image : List ℕ
image = image_bytes first (image_in printed)

abbrev said : List ℕ → Result Sizes Refusal
said l = load_of l keys table slots

-- ---- writing

-- its image is 88 bytes
length_88 : length image ≡ 88
unfolding image_bytes image_in number_bytes field_bytes record_bytes many_bytes part_bytes singles_in parts_in
length_88 = refl

-- which an out slice of 88 bytes holds
fits_88 : write_of printed 88 ≡ Ok 88
unfolding image_bytes image_in number_bytes field_bytes record_bytes many_bytes part_bytes singles_in parts_in write_of limited_of all wrong_of fails_of first_passing entry_fits fits_of fits_at run_wrong fitted_of length_of
fits_88 = refl

-- and one of 87 does not
no_87 : write_of printed 87 ≡ Err OutRoom
unfolding image_bytes image_in number_bytes field_bytes record_bytes many_bytes part_bytes singles_in parts_in write_of limited_of all wrong_of fails_of first_passing entry_fits fits_of fits_at run_wrong fitted_of length_of
no_87 = refl

-- a key cell of 2^48 is at place s, in a run or not
large_key : write_of (tabled (set keys 0 (2 ^ 48)) (set table 1 1)) 100 ≡ Err (StoreWrong 2)
unfolding image_bytes image_in number_bytes field_bytes record_bytes many_bytes part_bytes singles_in parts_in write_of limited_of all wrong_of fails_of first_passing entry_fits fits_of fits_at run_wrong fitted_of length_of
large_key = refl

-- after the entries
large_first : write_of (tabled (set keys 0 (2 ^ 48)) (set table 5 (2 ^ 48))) 100 ≡ Err (StoreWrong 1)
unfolding image_bytes image_in number_bytes field_bytes record_bytes many_bytes part_bytes singles_in parts_in write_of limited_of all wrong_of fails_of first_passing entry_fits fits_of fits_at run_wrong fitted_of length_of
large_first = refl

-- held = B is at its entry
full_entry : write_of (tabled keys (set table 4 2)) 100 ≡ Err (StoreWrong 0)
unfolding image_bytes image_in number_bytes field_bytes record_bytes many_bytes part_bytes singles_in parts_in write_of limited_of all wrong_of fails_of first_passing entry_fits fits_of fits_at run_wrong fitted_of length_of
full_entry = refl

-- a buffered key counts to its segment
large_slot : write_of (store_of (sizes_of 1 2 6 2) keys (set table 9 1) (set slots 2 (2 ^ 48))) 100 ≡ Err (StoreWrong 1)
unfolding image_bytes image_in number_bytes field_bytes record_bytes many_bytes part_bytes singles_in parts_in write_of limited_of all wrong_of fails_of first_passing entry_fits fits_of fits_at run_wrong fitted_of length_of
large_slot = refl

-- what fits its bytes is written, damaged or not
damaged_written : write_of (tabled (set keys 0 (2 ^ 48 - 1)) (set (set (set table 0 (2 ^ 44)) 1 65535) 3 0)) 100 ≡ Ok 88
unfolding image_bytes image_in number_bytes field_bytes record_bytes many_bytes part_bytes singles_in parts_in write_of limited_of all wrong_of fails_of first_passing entry_fits fits_of fits_at run_wrong fitted_of length_of
damaged_written = refl

-- the limits come first
no_segments : write_of (store_of (sizes_of 1 2 6 0) keys table slots) 0 ≡ Err Limits
unfolding image_bytes image_in number_bytes field_bytes record_bytes many_bytes part_bytes singles_in parts_in write_of limited_of all wrong_of fails_of first_passing entry_fits fits_of fits_at run_wrong fitted_of length_of
no_segments = refl

-- ---- reading

-- the whole image
whole : said image ≡ Ok (sizes_of 1 2 6 2)
unfolding image_bytes image_in number_bytes field_bytes record_bytes many_bytes part_bytes singles_in parts_in load_of judged_of headed_of counted_of rest_of parts_of part_of segment_at held_at end_of walk_of stands_at total get_at all roomed_of keys_held segments_held
whole = refl

-- without its last byte
no_end : said (take 87 image) ≡ Err (Malformed 87)
unfolding image_bytes image_in number_bytes field_bytes record_bytes many_bytes part_bytes singles_in parts_in load_of judged_of headed_of counted_of rest_of parts_of part_of segment_at held_at end_of walk_of stands_at total get_at all roomed_of keys_held segments_held
no_end = refl

-- cut at a record
cut_16 : said (take 16 image) ≡ Err (Malformed 16)
unfolding image_bytes image_in number_bytes field_bytes record_bytes many_bytes part_bytes singles_in parts_in load_of judged_of headed_of counted_of rest_of parts_of part_of segment_at held_at end_of walk_of stands_at total get_at all roomed_of keys_held segments_held
cut_16 = refl

-- cut within it
cut_17 : said (take 17 image) ≡ Err (Malformed 16)
unfolding image_bytes image_in number_bytes field_bytes record_bytes many_bytes part_bytes singles_in parts_in load_of judged_of headed_of counted_of rest_of parts_of part_of segment_at held_at end_of walk_of stands_at total get_at all roomed_of keys_held segments_held
cut_17 = refl

-- one byte more
more_after : said (image ++ (0 ∷ [])) ≡ Err (Malformed 88)
unfolding image_bytes image_in number_bytes field_bytes record_bytes many_bytes part_bytes singles_in parts_in load_of judged_of headed_of counted_of rest_of parts_of part_of segment_at held_at end_of walk_of stands_at total get_at all roomed_of keys_held segments_held
more_after = refl

-- a wrong kind
wrong_kind : said (set image 51 4) ≡ Err (Malformed 51)
unfolding image_bytes image_in number_bytes field_bytes record_bytes many_bytes part_bytes singles_in parts_in load_of judged_of headed_of counted_of rest_of parts_of part_of segment_at held_at end_of walk_of stands_at total get_at all roomed_of keys_held segments_held
wrong_kind = refl

-- held = B is at its segment
held_is_b : said (set image 68 2) ≡ Err (Malformed 51)
unfolding image_bytes image_in number_bytes field_bytes record_bytes many_bytes part_bytes singles_in parts_in load_of judged_of headed_of counted_of rest_of parts_of part_of segment_at held_at end_of walk_of stands_at total get_at all roomed_of keys_held segments_held
held_is_b = refl

-- nothing, and less than a head
nothing : said [] ≡ Err (Malformed 0)
unfolding image_bytes image_in number_bytes field_bytes record_bytes many_bytes part_bytes singles_in parts_in load_of judged_of headed_of counted_of rest_of parts_of part_of segment_at held_at end_of walk_of stands_at total get_at all roomed_of keys_held segments_held
nothing = refl

-- a head alone
head_alone : said (take 8 image) ≡ Err (Malformed 0)
unfolding image_bytes image_in number_bytes field_bytes record_bytes many_bytes part_bytes singles_in parts_in load_of judged_of headed_of counted_of rest_of parts_of part_of segment_at held_at end_of walk_of stands_at total get_at all roomed_of keys_held segments_held
head_alone = refl

-- the limits come before anything after the head
b_is_0 : said (set (take 9 image) 3 0) ≡ Err Limits
unfolding image_bytes image_in number_bytes field_bytes record_bytes many_bytes part_bytes singles_in parts_in load_of judged_of headed_of counted_of rest_of parts_of part_of segment_at held_at end_of walk_of stands_at total get_at all roomed_of keys_held segments_held
b_is_0 = refl

-- and after the head
b_is_0_kind_2 : said (set (set (take 9 image) 3 0) 0 2) ≡ Err (Malformed 0)
unfolding image_bytes image_in number_bytes field_bytes record_bytes many_bytes part_bytes singles_in parts_in load_of judged_of headed_of counted_of rest_of parts_of part_of segment_at held_at end_of walk_of stands_at total get_at all roomed_of keys_held segments_held
b_is_0_kind_2 = refl

-- no slices at all
no_slices : load_of image [] [] [] ≡ Err KeyRoom
unfolding image_bytes image_in number_bytes field_bytes record_bytes many_bytes part_bytes singles_in parts_in load_of judged_of headed_of counted_of rest_of parts_of part_of segment_at held_at end_of walk_of stands_at total get_at all roomed_of keys_held segments_held
no_slices = refl

-- the rest comes before the rooms
no_slices_no_end : load_of (take 87 image) [] [] [] ≡ Err (Malformed 87)
unfolding image_bytes image_in number_bytes field_bytes record_bytes many_bytes part_bytes singles_in parts_in load_of judged_of headed_of counted_of rest_of parts_of part_of segment_at held_at end_of walk_of stands_at total get_at all roomed_of keys_held segments_held
no_slices_no_end = refl

-- a table of 9 cells
short_table : load_of image keys (take 9 table) slots ≡ Err SegmentRoom
unfolding image_bytes image_in number_bytes field_bytes record_bytes many_bytes part_bytes singles_in parts_in load_of judged_of headed_of counted_of rest_of parts_of part_of segment_at held_at end_of walk_of stands_at total get_at all roomed_of keys_held segments_held
short_table = refl

-- 3 slots
short_slots : load_of image keys table (take 3 slots) ≡ Err SegmentRoom
unfolding image_bytes image_in number_bytes field_bytes record_bytes many_bytes part_bytes singles_in parts_in load_of judged_of headed_of counted_of rest_of parts_of part_of segment_at held_at end_of walk_of stands_at total get_at all roomed_of keys_held segments_held
short_slots = refl

-- a run of 0, a base of 65,535 and keys up to 2^48 - 1 are read
damaged_read : said (image_bytes first (image_in (tabled (set keys 0 (2 ^ 48 - 1)) (set (set table 1 65535) 3 0)))) ≡ Ok (sizes_of 1 2 6 2)
unfolding image_bytes image_in number_bytes field_bytes record_bytes many_bytes part_bytes singles_in parts_in load_of judged_of headed_of counted_of rest_of parts_of part_of segment_at held_at end_of walk_of stands_at total get_at all roomed_of keys_held segments_held
damaged_read = refl
