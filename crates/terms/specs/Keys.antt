-- 01, "A key is at least 0 and below 2^44", and "strictly rising and below 2^44": said here and nowhere else, each as a statement and as a test.
use Rattle.std.specs.Prelude.{Result, Ok, Err, Bool, List, ℕ, ◌≤◌, ◌<◌, leb, ltb}
use Rattle.lists.specs.Rising.{Up, up_of}
use Rattle.lists.specs.Tests.{pick}
use Rattle.terms.specs.Limits.{key_limit, key_of}
use Rattle.terms.specs.declared.Key.{Key}
use Rattle.terms.specs.declared.Refusal.{Refusal}
use Rattle.terms.specs.declared.Refusal.TheVariants.{LargeKey}

-- a number is a key
abbrev pub IsKey : ℕ → Type 0
IsKey k = k < key_limit

abbrev pub is_key : ℕ → Bool
is_key k = ltb k key_limit

-- the key, or refusal 2
abbrev pub key_given : ℕ → Result Key Refusal
key_given k = pick (is_key k) (Ok (key_of k)) (Err (LargeKey (record { 0 = 0 })))

-- it is none
abbrev pub NoKey : ℕ → Type 0
NoKey k = key_limit ≤ k

abbrev pub no_key : ℕ → Bool
no_key k = leb key_limit k

-- numbers rise strictly, from lo on, and each is a key
abbrev pub RisingFrom : ℕ → List ℕ → Type 0
RisingFrom lo ks = Up lo key_limit ks

abbrev pub rising_from : ℕ → List ℕ → Bool
rising_from lo ks = up_of lo key_limit ks

-- they rise strictly, from whatever key on
abbrev pub RisingKeys : List ℕ → Type 0
RisingKeys ks = RisingFrom 0 ks

abbrev pub rising_keys : List ℕ → Bool
rising_keys ks = rising_from 0 ks
