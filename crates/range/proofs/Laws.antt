-- The cases of each function, over what its callees ensure and what its tests say.
-- Assumes nothing.
use Rattle.std.specs.Prelude.{Option, Some, None, Result, Ok, Err}
use Rattle.terms.specs.declared.Refusal.{Refusal}
use mathlib.Core.Path.{◌≡◌, refl, sym, ◌∙◌}
use mathlib.Core.Bool.{Bool, true, false}
use mathlib.Core.List.{List}
use Prim.Native.Nat.{ℕ, ◌+◌, ◌-◌, ◌≤◌, ◌<◌}
use native.Mathlib.Numerals.{add-one}
use native.Mathlib.Omega.{arith}
use mir.Syntax.{w64}
use mir.Val.{Fits}
use lib.ListN.{length}
use borrow.Author.Tests.{le-leb, lt-leb}
use Rattle.terms.specs.Keys.{is_key}
use Rattle.terms.specs.declared.Refusal.TheVariants.{Limits as OutOfLimits, LargeKey, Backwards, OutRoom}
use Rattle.terms.specs.declared.Sizes.{Sizes}
use Rattle.table.specs.Store.{Store, store_of}
use Rattle.table.specs.Limits.{Limits, limited_of}
use Rattle.table.specs.Entries.{Rows}
use Rattle.choose.specs.Chosen.{chosen_of}
use Rattle.choose.specs.Stretch.{keys_in, keys_from}
use Rattle.choose.proofs.Chosen.{chosen_below}
use Rattle.scan.specs.Scan.{fails_of, none_of}
use Rattle.scan.proofs.Meaning.{passes}
use Rattle.range_stretch.specs.Stretch.{fine_of, counted_by, judged_of}
use Rattle.range_stretch.specs.Asks.{Stretch, Fillable}
use Rattle.range_stretch.proofs.Stretches.{fine_sound}
use Rattle.range.specs.Range.{stretched_of, chosen_range_of, range_of, out_by}

-- ---- stretched

-- a stretch that is counted has no segment that is wrong
counts_none : (m count : ℕ) (f : Option ℕ) → counted_by m f ≡ Ok count → none_of f ≡ true
counts_none m count (Some i) e = absurd (let z : ◌≡◌ {A = ℕ} 0 1 = cc in omega arith)
counts_none m count None e = refl

counts_same : (m count : ℕ) (f : Option ℕ) → counted_by m f ≡ Ok count → count ≡ m
counts_same m count (Some i) e = absurd (let z : ◌≡◌ {A = ℕ} 0 1 = cc in omega arith)
counts_same m count None e = cc

module _ (σ : Store) (low high a to : ℕ) {j : Result ℕ Refusal} (is : j ≡ judged_of σ low high a to) where
  pub stretched_wrong : (room : ℕ) {r : Refusal} → j ≡ Err r → Err r ≡ stretched_of σ low high a to room
  unfolding stretched_of
  stretched_wrong room q = rw (sym is ∙ q) refl

  module _ {m : ℕ} (q : j ≡ Ok m) where
    counted : judged_of σ low high a to ≡ Ok m
    counted = sym is ∙ q

    pub stretched_asks : (out : List ℕ) → Stretch σ a to → m ≤ length out → Fillable σ low high a to out
    unfolding judged_of
    stretched_asks out w h =
        let f : none_of (fails_of (fine_of σ a) a (to - a)) ≡ true = counts_none (length (keys_in σ low high a to)) m (fails_of (fine_of σ a) a (to - a)) counted in
        let l : m ≡ length (keys_in σ low high a to) = counts_same (length (keys_in σ low high a to)) m (fails_of (fine_of σ a) a (to - a)) counted in
        record {
          stretch = w;
          sound = λ i from below. fine_sound σ a i (passes (fine_of σ a) a (to - a) f i from (omega arith));
          room = omega (arith, l);
        }

    pub stretched_listed : (room : ℕ) → m ≤ room → Ok m ≡ stretched_of σ low high a to room
    unfolding stretched_of
    stretched_listed room h = rw (counted, le-leb m room h) refl

    pub stretched_short : (room : ℕ) → room < m → Err OutRoom ≡ stretched_of σ low high a to room
    unfolding stretched_of
    stretched_short room h = rw (counted, lt-leb m room h) refl

pub ruleset stretched_cases = (stretched_wrong, stretched_asks, stretched_listed, stretched_short)

-- ---- chosen

module _ (z : Sizes) (keys table buffers : List ℕ) (limits : Limits (store_of z keys table buffers)) where
  pub chosen_rows : Rows table z.s
  chosen_rows = omega (arith, limits)

  module _ (high : ℕ) {last : ℕ} (is : last ≡ chosen_of table z.s high) where
    inside : last < z.s
    inside = rw is (chosen_below table high z.s limits.s_least)

    pub chosen_past : Fits w64 (last + 1)
    chosen_past = record { fits = omega (arith, inside, limits.s_limit) }

    pub chosen_asks : (a : ℕ) → Stretch (store_of z keys table buffers) a (last + 1)
    chosen_asks a = record { limits = limits; inside = omega (arith, inside) }

module _ (σ : Store) (low high : ℕ) {a last : ℕ} (p : a ≡ chosen_of σ.table σ.s low) (q : last ≡ chosen_of σ.table σ.s high) where
  pub chosen_answered : (room : ℕ) {r : Result ℕ Refusal} → r ≡ stretched_of σ low high a (last + 1) room → r ≡ chosen_range_of σ low high room
  unfolding chosen_range_of
  chosen_answered room is = rw (p, q, add-one) at is

  pub chosen_written : (out : List ℕ) (r : Result ℕ Refusal) {out' : List ℕ} → out' ≡ out_by (keys_in σ low high a (last + 1)) r out → out' ≡ out_by (keys_from σ low high) r out
  chosen_written out r is = rw (p, q, add-one) at is

pub ruleset chosen_cases = (chosen_rows, chosen_past, chosen_asks, chosen_answered, chosen_written)

-- ---- range

module _ (σ : Store) (low high room : ℕ) {l : Bool} (limited : l ≡ limited_of σ) where
  pub range_limits : l ≡ false → Err OutOfLimits ≡ range_of σ low high room
  unfolding range_of
  range_limits q = rw (sym limited ∙ q) refl

  module _ (fine : l ≡ true) {u : Bool} (low_test : u ≡ is_key low) where
    pub range_low : u ≡ false → Err (LargeKey (record { 0 = 0 })) ≡ range_of σ low high room
    unfolding range_of
    range_low q = rw (sym limited ∙ fine, sym low_test ∙ q) refl

    module _ (low_key : u ≡ true) {v : Bool} (high_test : v ≡ is_key high) where
      pub range_high : v ≡ false → Err (LargeKey (record { 0 = 0 })) ≡ range_of σ low high room
      unfolding range_of
      range_high q = rw (sym limited ∙ fine, sym low_test ∙ low_key, sym high_test ∙ q) refl

      module _ (high_key : v ≡ true) where
        pub range_backwards : high < low → Err Backwards ≡ range_of σ low high room
        unfolding range_of
        range_backwards h = rw (sym limited ∙ fine, sym low_test ∙ low_key, sym high_test ∙ high_key, lt-leb low high h) refl

        pub range_answered : {r : Result ℕ Refusal} → low ≤ high → r ≡ chosen_range_of σ low high room → r ≡ range_of σ low high room
        unfolding range_of
        range_answered h is = rw (sym limited ∙ fine, sym low_test ∙ low_key, sym high_test ∙ high_key, le-leb low high h) is

pub ruleset range_cases = (range_limits, range_low, range_high, range_backwards, range_answered)
