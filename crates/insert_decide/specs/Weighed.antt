-- 01, "Insert", once the entry is not damaged: 9 (buffer), 5, 9 (merge), from the entry, the run and the used slots.
use Rattle.std.specs.Prelude.{Option, Some, None, Result, Ok, Err}
use Rattle.std.specs.Prelude.{◌≡◌, List, ℕ, ◌+◌, ◌-◌, ◌≤◌, ◌<◌, ltb, length}
use Rattle.lists.specs.Tests.{pick}
use Rattle.lists.specs.Merge.{place_of, merge, insert_sorted}
use Rattle.terms.specs.Limits.{e_most, b_most, cut_most}
use Rattle.terms.specs.Keys.{IsKey, rising_keys, RisingKeys}
use Rattle.terms.specs.declared.Key.{Key}
use Rattle.terms.specs.declared.Entry.{Entry}
use Rattle.terms.specs.declared.Refusal.{Refusal}
use Rattle.terms.specs.declared.Refusal.TheVariants.{Present, StoreWrong}
use Rattle.line.specs.Line.{reach_of}
use Rattle.scan.specs.Scan.{lowest_of}
use Rattle.cone.specs.Rule.{cut}
use Rattle.insert_pieces.specs.Judged.{cutting_of}
use Rattle.segment.specs.Lent.{Lent}
use Rattle.insert_decide.specs.declared.Weighed.{Weighed}
use Rattle.insert_decide.specs.declared.Weighed.TheVariants.{Slot, Pieces}

-- 9, merge due: "the merged list not so"
abbrev pub cut_for : ℕ → Option ℕ → Result Weighed Refusal
cut_for i (Some t) = Ok (Pieces t)
cut_for i None = Err (StoreWrong i)

-- "If held+1 < B, k goes to its rising place in the used slots"; "If held+1 = B a merge is due"
unfoldable pub rest_of : ℕ → ℕ → ℕ → ℕ → ℕ → List ℕ → List ℕ → ℕ → Result Weighed Refusal
rest_of i e b held place run used k = pick (ltb (held + 1) b) (Ok (Slot place)) (cut_for i (cutting_of e (merge run (insert_sorted k used))))

-- 5: "lookup finds k"
abbrev pub unless_at : Option ℕ → Result Weighed Refusal → Result Weighed Refusal
unless_at (Some p) rest = Err Present
unless_at None rest = rest

-- 9, buffer: "its used buffer not strictly rising and below 2^44"; in segment i
unfoldable pub weighed_of : ℕ → ℕ → ℕ → Entry → List ℕ → List ℕ → Key → Result Weighed Refusal
weighed_of i e b x run used k =
    pick (rising_keys used)
    (unless_at (lowest_of run (reach_of e x k).from ((reach_of e x k).to - (reach_of e x k).from) k.0)
    (unless_at (lowest_of used 0 (length used) k.0) (rest_of i e b x.held (place_of k.0 used) run used k.0)))
    (Err (StoreWrong i))

-- what is asked
pub record Weighable (e b : ℕ) (x : Entry) (run used : List ℕ) (k : Key) : Type 0 where
  pub lent : Lent x run used
  pub key_small : IsKey k.0
  pub e_limit : e ≤ e_most
  pub b_limit : b ≤ b_most
  pub held_below : x.held < b

-- what each answer says: p is k's rising place, and there is a slot for it
pub record Seated (b : ℕ) (x : Entry) (used : List ℕ) (k : Key) (p : ℕ) : Type 0 where
  pub free : x.held + 1 < b
  pub place : p ≡ place_of k.0 used

-- or no slot is left, and the merged list, which rises, is cut into t segments
pub record Parted (e b : ℕ) (x : Entry) (run used : List ℕ) (k : Key) (t : ℕ) : Type 0 where
  pub full : b ≤ x.held + 1
  pub rising : RisingKeys (merge run (insert_sorted k.0 used))
  pub pieces : t ≡ length (cut e (merge run (insert_sorted k.0 used)))
  pub few : t ≤ cut_most

abbrev pub Told : ℕ → ℕ → Entry → List ℕ → List ℕ → Key → Result Weighed Refusal → Type 0
Told e b x run used k (Ok (Slot p)) = Seated b x used k p
Told e b x run used k (Ok (Pieces t)) = Parted e b x run used k t
Told e b x run used k (Err r) = Unit
