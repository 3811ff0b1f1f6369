-- 01, "2 or 3 at the lowest faulty position, 2 before 3": the keys given, each judged with the one before.
-- A test that is used as a fact stands beside the record of that fact.
use Rattle.std.specs.Prelude.{Option}
use Rattle.std.specs.Prelude.{Bool, List, ℕ, ◌-◌, ◌≤◌, ◌<◌, ltb, length, get_or}
use Rattle.lists.specs.Tests.{pick, both, imp}
use Rattle.terms.specs.Keys.{is_key, IsKey}
use Rattle.terms.specs.declared.Refusal.{Refusal}
use Rattle.terms.specs.declared.Refusal.TheVariants.{LargeKey, NotRising}
use Rattle.scan.specs.Scan.{fails_of}

-- the key at p is below 2^44, and above the one before
unfoldable pub good_of : List ℕ → ℕ → Bool
good_of keys p = both (is_key (get_or keys p 0)) (imp (ltb 0 p) (ltb (get_or keys (p - 1) 0) (get_or keys p 0)))

pub record Good (keys : List ℕ) (p : ℕ) : Type 0 where
  pub small : IsKey (get_or keys p 0)
  pub above : 0 < p → get_or keys (p - 1) 0 < get_or keys p 0

-- the lowest faulty position among the first n
unfoldable pub fault_of : List ℕ → ℕ → Option ℕ
fault_of keys n = fails_of (good_of keys) 0 n

-- 2: "a key given is not below 2^44"; 3: "key not above the one before"; "2 before 3"
unfoldable pub wrong_of : List ℕ → ℕ → Refusal
wrong_of keys p = pick (is_key (get_or keys p 0)) (NotRising (record { 0 = p })) (LargeKey (record { 0 = p }))

-- what a look at the first n keys asks, and at one of them
pub record Held (keys : List ℕ) (n : ℕ) : Type 0 where
  pub held : n ≤ length keys

pub record HeldAt (keys : List ℕ) (p : ℕ) : Type 0 where
  pub held : p < length keys
