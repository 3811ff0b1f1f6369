-- The rules as tests, in one walk over a segment's merged order; and what the check answers on every input.
use Rattle.std.specs.Prelude.{Option, Some, None, Result, Ok, Err}
use Rattle.terms.specs.declared.Refusal.{Refusal}
use Rattle.std.specs.Prelude.{⊤}
use Rattle.std.specs.Prelude.{◌≡◌, Bool, true, not, List, [], ◌∷◌, ℕ, ◌+◌, ◌*◌, ◌≤◌, ltb, leb, eqb, length, get_or, drop}
use Rattle.lists.specs.Tests.{pick, both, imp}
use Rattle.terms.specs.declared.Entry.{Entry}
use Rattle.terms.specs.declared.Refusal.TheVariants.{Limits as OutOfLimits, StoreWrong}
use Rattle.table.specs.Store.{Store, in_use}
use Rattle.table.specs.Limits.{limited_of}
use Rattle.table.specs.Entries.{entry_in, run_in, used_in}
use Rattle.table.specs.Damaged.{damaged_of}
use Rattle.scan.specs.Scan.{fails_of}
use Rattle.order.specs.declared.Cursor.{Cursor}
use Rattle.judge_key.specs.Key.{run_key_of, used_key_of}

-- what no key of segment i may reach
abbrev pub ceiling_of : ℕ → List ℕ → ℕ → Option ℕ
ceiling_of s t i = pick (ltb (i + 1) s) (Some (get_or t (5 * (i + 1)) 0)) None

-- of a run whose first key stands at position p and of used slots, merged: each key
unfoldable pub kept_of : ℕ → Entry → ℕ → Option ℕ → Option ℕ → ℕ → List ℕ → List ℕ → Bool
kept_of e x i next before p [] [] = true
kept_of e x i next before p [] (y ∷ ys) = both (used_key_of x i next before y) (kept_of e x i next (Some y) p [] ys)
kept_of e x i next before p (k ∷ ks) [] = both (run_key_of e x next before k p) (kept_of e x i next (Some k) (p + 1) ks [])
kept_of e x i next before p (k ∷ ks) (y ∷ ys) =
    pick (leb k y) (both (run_key_of e x next before k p) (kept_of e x i next (Some k) (p + 1) ks (y ∷ ys)))
    (both (used_key_of x i next before y) (kept_of e x i next (Some y) p (k ∷ ks) ys))

-- "the entry is not damaged; segment 0 has base 0; the first key equals the key at base"
unfoldable pub entry_rules : ℕ → ℕ → List ℕ → Entry → ℕ → Bool
entry_rules b n keys x i =
    both (not (damaged_of b n x)) (both (imp (eqb i 0) (eqb x.base.0 0)) (eqb (get_or keys x.base.0 0) x.first.0))

-- every rule of segment i
unfoldable pub rules_of : Store → ℕ → Bool
rules_of σ i =
    both (entry_rules σ.b σ.n σ.keys (entry_in σ i) i)
    (kept_of (in_use σ) (entry_in σ i) i (ceiling_of σ.s σ.table i) None (entry_in σ i).base.0 (run_in σ i) (used_in σ i))

-- "the lowest segment that breaks a rule"
abbrev pub judged : Option ℕ → Result ⊤ Refusal
judged (Some i) = Err (StoreWrong i)
judged None = Ok tt

-- "Check: 1, 9."
unfoldable pub check_of : Store → Result ⊤ Refusal
check_of σ = pick (limited_of σ) (judged (fails_of (rules_of σ) 0 σ.s)) (Err OutOfLimits)

-- the walk has come to m, past a key that bounds the next: what is left decides
pub record Going (e : ℕ) (x : Entry) (i : ℕ) (next : Option ℕ) (run used : List ℕ) (before : Option ℕ) (m : Cursor) : Type 0 where
  pub alone : m.took ≡ true
  pub inside : m.i ≤ length run
  pub so_far : kept_of e x i next None x.base.0 run used ≡ kept_of e x i next before (x.base.0 + m.i) (drop m.i run) (drop m.j used)
