-- 01, "Refusal numbers", the rows that are build's: when each answer is given, with no scan and no loop in it.
-- "Order. Build: 1; then 2 or 3 at the lowest faulty position, 2 before 3; 7."
use Rattle.std.specs.Prelude.{Result, Ok, Err}
use Rattle.terms.specs.declared.Refusal.{Refusal}
use Rattle.std.specs.Prelude.{◌≡◌, List, ℕ, ◌-◌, ◌≤◌, ◌<◌, length, get_or, take}
use Rattle.terms.specs.Keys.{IsKey, NoKey}
use Rattle.terms.specs.declared.Refusal.TheVariants.{Limits, LargeKey, NotRising, SegmentRoom}
use Rattle.table.specs.Limits.{segment_room}
use Rattle.cone.specs.Rule.{cut}
use Rattle.build_keys.specs.Faults.{Good}
use Rattle.build.specs.Build.{Takes}

-- p is the lowest faulty position: the numbers are within their limits, and every key before p is a key above the one before it
pub record Lowest (e b n : ℕ) (keys : List ℕ) (p : ℕ) : Type 0 where
  pub takes : Takes e b n keys
  pub given : p < n
  pub lower : (q : ℕ) → q < p → Good keys q

-- 2: "a key given is not below 2^44", place: its position
pub record Large (e b n : ℕ) (keys : List ℕ) (p : ℕ) : Type 0 where
  pub lowest : Lowest e b n keys p
  pub large : NoKey (get_or keys p 0)

-- 3: "key not above the one before", place: its position; 2 before 3, so the key is below 2^44
pub record Falls (e b n : ℕ) (keys : List ℕ) (p : ℕ) : Type 0 where
  pub lowest : Lowest e b n keys p
  pub small : IsKey (get_or keys p 0)
  pub later : 0 < p
  pub not_above : get_or keys p 0 ≤ get_or keys (p - 1) 0

-- neither 1, nor 2 or 3 at any position
pub record Sound (e b n : ℕ) (keys : List ℕ) : Type 0 where
  pub takes : Takes e b n keys
  pub good : (q : ℕ) → q < n → Good keys q

-- 7: "result needs more segments than segment room"
pub record Cramped (e b n : ℕ) (keys table buffers : List ℕ) : Type 0 where
  pub sound : Sound e b n keys
  pub room : segment_room b table buffers < length (cut e (take n keys))

-- "Accepted, build answers s"
pub record Accepted (e b n : ℕ) (keys table buffers : List ℕ) (s : ℕ) : Type 0 where
  pub sound : Sound e b n keys
  pub counts : s ≡ length (cut e (take n keys))
  pub room : s ≤ segment_room b table buffers

-- the answers, and the refusals in 01's order: 1, "e, B, n or s outside its limits, or n .. above the slice's length (build has no s yet)"; then 2 or
-- 3 at the lowest faulty position; 7
pub data Builds (e b n : ℕ) (keys table buffers : List ℕ) : Result ℕ Refusal → Type 0 where
  made : {s : ℕ} → Accepted e b n keys table buffers s → Builds e b n keys table buffers (Ok s)
  refused_1 : (Takes e b n keys → ⊥) → Builds e b n keys table buffers (Err Limits)
  refused_2 : {p : ℕ} → Large e b n keys p → Builds e b n keys table buffers (Err (LargeKey (record { 0 = p })))
  refused_3 : {p : ℕ} → Falls e b n keys p → Builds e b n keys table buffers (Err (NotRising (record { 0 = p })))
  refused_7 : Cramped e b n keys table buffers → Builds e b n keys table buffers (Err SegmentRoom)
