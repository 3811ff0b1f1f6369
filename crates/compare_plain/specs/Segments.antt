-- What of a store may be lent, by 01's "Numbers", and its segments.
use Rattle.std.specs.Prelude.{ℕ, List, ◌≡◌, ◌≤◌, ◌<◌, ◌⊎◌, length, nat_lt, if◌then◌else◌, slice_index, slice_range}
use Rattle.compare_plain.specs.declared.segment.Entry.{Entry}
use Rattle.compare_plain.specs.Cells.{sum_of, product_of}

-- e, B, n and s within their limits
abbrev pub Limited : ℕ → ℕ → ℕ → ℕ → Type 0
Limited e b n s = (e ≤ 1024) × (1 ≤ b) × (b ≤ 64) × (1 ≤ n) × (n ≤ 32768) × (1 ≤ s) × (s ≤ 8192)

-- and n, 5·s and s·B not above the slices' lengths
abbrev pub Lendable : ℕ → ℕ → ℕ → ℕ → List ℕ → List ℕ → List ℕ → Type 0
Lendable e b n s keys table buffers =
    Limited e b n s × ((n ≤ length keys) × (product_of s 5 ≤ length table) × (product_of s b ≤ length buffers))

-- "Segment i has five numbers in the table: first key, base, rise, run, held", its run and its used slots.
abbrev pub entry_at : List ℕ → ℕ → Entry
entry_at table i =
    let p = product_of i 5 in
    record { first = slice_index table p; base = slice_index table (sum_of p 1); rise = slice_index table (sum_of p 2); run = slice_index table (sum_of p 3); held = slice_index table (sum_of p 4) }

-- "Its end is the base of segment i+1, or n for the last"
abbrev pub end_at : ℕ → ℕ → List ℕ → ℕ → ℕ
end_at n s table i = if nat_lt (sum_of i 1) s then (entry_at table (sum_of i 1)).base else n

-- "Its run of keys stands at positions base to end−1 of the key slice"
abbrev pub run_at : ℕ → ℕ → List ℕ → List ℕ → ℕ → List ℕ
run_at n s keys table i = slice_range keys (entry_at table i).base (end_at n s table i)

-- "Its buffer is the B slots from i·B; the first "held" are used"
abbrev pub used_at : ℕ → List ℕ → List ℕ → ℕ → List ℕ
used_at b table buffers i = slice_range buffers (product_of i b) (sum_of (product_of i b) (entry_at table i).held)

-- "Damaged entry"
abbrev pub Damaged : ℕ → ℕ → ℕ → List ℕ → ℕ → Type 0
Damaged b n s table i =
    let x = entry_at table i in
    let end = end_at n s table i in
    (17592186044416 ≤ x.first) ⊎ ((x.run ≡ 0) ⊎ ((17592186044416 ≤ x.run) ⊎ ((65535 < x.rise) ⊎ ((end ≤ x.base) ⊎ ((n < end) ⊎ (b ≤ x.held))))))
