-- Demand 3: "Altering stored reads outside the bound round the guess and outside that segment's buffer, table untouched, never changes a
-- lookup's answer." For any store, accepted or not, and any key.
-- Assumes nothing.
use Rattle.std.specs.Prelude.{Ok}
use mathlib.Core.Path.{◌≡◌, refl, sym, ◌∙◌, ap}
use mathlib.Core.List.{List}
use Prim.Native.Nat.{ℕ, ◌-◌, ◌*◌, ◌<◌}
use native.Mathlib.Omega.{arith}
use lib.ListN.{length, drop, length-take, length-drop}
use Rattle.lists.proofs.Tests.{either}
use Rattle.terms.specs.Limits.{key_of}
use Rattle.terms.specs.declared.Entry.{Entry}
use Rattle.table.specs.Store.{Store, in_use}
use Rattle.table.specs.Limits.{limited_of}
use Rattle.table.specs.Entries.{entry_in, run_of, used_of}
use Rattle.table.specs.Damaged.{damaged_of}
use Rattle.choose.specs.Chosen.{chosen_of}
use Rattle.choose.specs.Picked.{picked_of, picked_in}
use Rattle.line.specs.Line.{window_of}
use Rattle.line.proofs.Meaning.{within_near}
use Rattle.scan.specs.Scan.{lowest_of}
use Rattle.scan.proofs.Meaning.{same_scan}
use Rattle.lookup.specs.Lookup.{buffered_of, searched_of, picked_for, lookup_of}
use Rattle.lookup.proofs.Window.{window_shifted}
use Rattle.lookup_laws.specs.Altered.{altered, Alike}
use Rattle.lookup_laws.proofs.Meaning.{slot_at}

module _ (σ : Store) (keys buffers : List ℕ) (k : ℕ) (w : Alike σ keys buffers k) where
  abbrev chosen : ℕ
  chosen = chosen_of σ.table σ.s k

  limited_same : limited_of (altered σ keys buffers) ≡ limited_of σ
  unfolding limited_of
  limited_same = rw (w.keys_length, w.buffers_length)

  abbrev x : Entry
  x = entry_in σ chosen

  abbrev from : ℕ
  from = (window_of (in_use σ) x (key_of k)).from.0

  abbrev count : ℕ
  count = (window_of (in_use σ) x (key_of k)).to.0 - from

  window_same : lowest_of keys from count k ≡ lowest_of σ.keys from count k
  window_same = same_scan keys σ.keys k _ _ (λ q h g. w.near q (within_near _ _ _ q (record { from = h; below = omega arith })))

  abbrev used : List ℕ → List ℕ
  used bs = used_of σ.b bs chosen x.held

  length_same : length (used buffers) ≡ length (used σ.buffers)
  length_same = simp (length-take, length-drop, w.buffers_length)

  slots_same : lowest_of (used buffers) 0 (length (used buffers)) k ≡ lowest_of (used σ.buffers) 0 (length (used σ.buffers)) k
  slots_same =
      rw length_same
      (same_scan _ _ k 0 (length (used σ.buffers))
      (λ q h g.
      let l : q < x.held = omega (arith, length-take x.held (drop (chosen * σ.b) σ.buffers)) in
      slot_at (altered σ keys buffers) k chosen q l ∙ w.used q l ∙ sym (slot_at σ k chosen q l)))

  searched_same : searched_of (in_use σ) x chosen (run_of keys x) (used buffers) (key_of k) ≡ searched_of (in_use σ) x chosen (run_of σ.keys x) (used σ.buffers) (key_of k)
  unfolding searched_of buffered_of
  searched_same = rw (window_shifted (in_use σ) x (key_of k) keys, window_shifted (in_use σ) x (key_of k) σ.keys, window_same, slots_same) refl

  picked_same : picked_for (altered σ keys buffers) k (picked_in σ k) ≡ picked_for σ k (picked_in σ k)
  unfolding picked_of
  picked_same = either (damaged_of σ.b σ.n x) (λ t. simp t) (λ t. simp t (ap Ok searched_same))

  pub same_answer : lookup_of (altered σ keys buffers) k ≡ lookup_of σ k
  unfolding lookup_of
  same_answer = rw (limited_same, picked_same)
