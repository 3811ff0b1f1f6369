-- Keys and rising keys: the test is the statement, and what rising keys give.
-- Assumes nothing.
use mathlib.Core.Path.{◌≡◌}
use mathlib.Core.Bool.{true, false}
use mathlib.Core.List.{List}
use Prim.Native.Nat.{ℕ, ◌<◌}
use lib.ListN.{length, get_or}
use borrow.Author.Tests.{lt-ltb, le-ltb, ltb-true, ltb-false}
use Rattle.lists.specs.Rising.{In}
use Rattle.lists.specs.Merge.{merge}
use Rattle.lists.proofs.Rising.{up_true, true_up, in_below, up_rises}
use Rattle.lists.proofs.Merging.{Split, merged_split}
use Rattle.terms.specs.Limits.{key_limit}
use Rattle.terms.specs.Keys.{is_key, IsKey, NoKey, rising_keys, RisingKeys, rising_from, RisingFrom}

pub key_true : (k : ℕ) → is_key k ≡ true → IsKey k
key_true k h = ltb-true k key_limit h

pub true_key : (k : ℕ) → IsKey k → is_key k ≡ true
true_key k h = lt-ltb k key_limit h

pub key_false : (k : ℕ) → is_key k ≡ false → NoKey k
key_false k h = ltb-false k key_limit h

pub false_key : (k : ℕ) → NoKey k → is_key k ≡ false
false_key k h = le-ltb k key_limit h

pub rising_true : (ks : List ℕ) → rising_keys ks ≡ true → RisingKeys ks
rising_true ks h = up_true 0 key_limit ks h

pub true_rising : (ks : List ℕ) → RisingKeys ks → rising_keys ks ≡ true
true_rising ks u = true_up 0 key_limit ks u

pub from_true : (lo : ℕ) (ks : List ℕ) → rising_from lo ks ≡ true → RisingFrom lo ks
from_true lo ks h = up_true lo key_limit ks h

pub true_from : (lo : ℕ) (ks : List ℕ) → RisingFrom lo ks → rising_from lo ks ≡ true
true_from lo ks u = true_up lo key_limit ks u

-- each of them is a key
pub rising_key : (k : ℕ) (ks : List ℕ) → RisingKeys ks → In k ks → IsKey k
rising_key k ks u i = in_below 0 key_limit k ks u i

-- an earlier one is below a later one
pub rising_lt : (ks : List ℕ) → RisingKeys ks → (i j : ℕ) → i < j → j < length ks → get_or ks i 0 < get_or ks j 0
rising_lt ks u i j h l = up_rises 0 key_limit ks u i j h l

-- two lists that rise when merged rise each, and share no key
pub rising_split : (xs ys : List ℕ) → RisingKeys (merge xs ys) → Split 0 key_limit xs ys
rising_split xs ys u = merged_split 0 key_limit xs ys u
