-- Demand 2: on an accepted store range lists exactly the reads from low to high, and their number; it never refuses by 9, and by 8 exactly when they are
-- more than the out slice holds.
-- Assumes nothing.
use Rattle.std.specs.Prelude.{Ok, Err}
use mathlib.Core.Path.{◌≡◌, refl, sym, ap, ◌∙◌}
use mathlib.Core.List.{List, ◌++◌}
use Prim.Native.Nat.{ℕ, suc, ◌+◌, ◌-◌, ◌≤◌, ◌<◌}
use native.Mathlib.Omega.{arith}
use lib.ListN.{length}
use lib.Seq.{drop_at}
use Rattle.lists.specs.Between.{between}
use Rattle.lists.proofs.Rising.{up_left, up_drop}
use Rattle.terms.specs.Keys.{IsKey, RisingKeys}
use Rattle.terms.specs.declared.Refusal.TheVariants.{OutRoom}
use Rattle.terms.proofs.Keys.{rising_lt}
use Rattle.table.specs.Store.{Store}
use Rattle.choose.specs.Chosen.{chosen_of}
use Rattle.choose.specs.Stretch.{keys_from}
use Rattle.table.specs.Reads.{stretch_of, reads}
use Rattle.choose.proofs.Chosen.{chosen_is}
use Rattle.judge.specs.Rules.{Accepted}
use Rattle.judge_laws.proofs.Segments.{held_key, reads_rise}
use Rattle.theory_stretch.proofs.Stretch.{stretch_split, range_is}
use Rattle.range.specs.Range.{range_of}
use Rattle.range_laws.specs.Answers.{Asked, Fine, Right}
use Rattle.range_laws.proofs.Meaning.{held_listed, long_eight}

rising_right : (xs ys : List ℕ) → RisingKeys (xs ++ ys) → RisingKeys ys
rising_right xs ys u = rw (drop_at xs ys (length xs) refl) at (up_drop 0 _ (xs ++ ys) (length xs) u)

module _ (σ : Store) (ok : Accepted σ) where
  -- the reads of neighbouring segments are a part of all the reads, which rise
  part_up : (a c : ℕ) → a + c ≤ σ.s → RisingKeys (stretch_of σ a c)
  part_up a c h =
      let last : ℕ = σ.s - (a + c) in
      let s : σ.s ≡ a + (c + last) = omega arith in
      let f : 0 + a ≡ a = omega arith in
      let whole : reads σ ≡ stretch_of σ 0 a ++ (stretch_of σ a c ++ stretch_of σ (a + c) last)
      = ap (λ (m : ℕ). stretch_of σ 0 m) s ∙ stretch_split σ a (c + last) 0 ∙ ap (λ (m : ℕ). stretch_of σ 0 a ++ stretch_of σ m (c + last)) f
      ∙ ap (λ (l : List ℕ). stretch_of σ 0 a ++ l) (stretch_split σ c last a) in
      let u : RisingKeys (stretch_of σ 0 a ++ (stretch_of σ a c ++ stretch_of σ (a + c) last)) = rw whole at (reads_rise σ ok) in
      up_left 0 _ (stretch_of σ a c) (stretch_of σ (a + c) last) (rising_right (stretch_of σ 0 a) (stretch_of σ a c ++ stretch_of σ (a + c) last) u)

  pub every_fine : (a i : ℕ) → a ≤ i → i < σ.s → Fine σ a i
  every_fine a i from inside =
      record {
        sound = (ok.rules i inside).sound;
        small = λ k j. held_key σ ok i inside k j;
        above = λ p h l. rising_lt (stretch_of σ a (suc i - a)) (part_up a (suc i - a) (omega arith)) p (suc p) (omega arith) l;
      }

  module _ (low high : ℕ) (low_key : IsKey low) (high_key : IsKey high) (forwards : low ≤ high) where
    asked : Asked σ low high (chosen_of σ.table σ.s low) (chosen_of σ.table σ.s high)
    asked =
        record {
          limits = ok.limits;
          low_key = low_key;
          high_key = high_key;
          forwards = forwards;
          from = chosen_is σ.table low σ.s ok.limits.s_least;
          to = chosen_is σ.table high σ.s ok.limits.s_least;
        }

    right : Right σ low high (chosen_of σ.table σ.s low) (chosen_of σ.table σ.s high)
    right = record { asked = asked; fine = λ i h g. every_fine (chosen_of σ.table σ.s low) i h (omega (arith, g, asked.to.inside)) }

    -- what it writes
    pub plain_keys : keys_from σ low high ≡ between low high (reads σ)
    plain_keys = range_is σ ok low high forwards

    -- what it answers, where they have room
    pub plain_listed : (room : ℕ) → length (between low high (reads σ)) ≤ room → range_of σ low high room ≡ Ok (length (between low high (reads σ)))
    plain_listed room h =
        held_listed σ low high room (length (between low high (reads σ)))
        (record { first = chosen_of σ.table σ.s low; last = chosen_of σ.table σ.s high; right = right; number = ap length (sym plain_keys); fits = h })

    -- and where they have not
    pub plain_long : (room : ℕ) → room < length (between low high (reads σ)) → range_of σ low high room ≡ Err OutRoom
    plain_long room h =
        long_eight σ low high room
        (record {
          first = chosen_of σ.table σ.s low;
          last = chosen_of σ.table σ.s high;
          right = right;
          longer = omega (arith, h, ap length plain_keys);
        })
