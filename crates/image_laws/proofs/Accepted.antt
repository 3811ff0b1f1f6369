-- A store that the check accepted is accepted after it was written and read: it is the same store.
-- Assumes nothing.
use Rattle.std.specs.Prelude.{Ok}
use mathlib.Core.Path.{◌≡◌, sym, subst, ◌∙◌}
use mathlib.Core.List.{List}
use Prim.Native.Nat.{ℕ, ◌+◌, ◌≤◌, ◌<◌}
use native.Mathlib.Omega.{arith}
use lib.ListN.{length, get_or, take}
use Rattle.lists.specs.Rising.{In}
use Rattle.terms.specs.declared.Sizes.{Sizes}
use Rattle.terms.specs.Limits.{key_of, in_use_of}
use Rattle.terms.specs.Keys.{RisingKeys}
use Rattle.table.specs.Store.{Store, sizes_in, in_use}
use Rattle.table.specs.Limits.{Limits, key_room, segment_room}
use Rattle.table.specs.Entries.{entry_in, run_in, used_in}
use Rattle.line.specs.Meaning.{Near}
use Rattle.judge.specs.Rules.{Rules, Accepted}
use Rattle.image_write.specs.Writing.{write_of, out_by}
use Rattle.image_laws.specs.Same.{Same}
use Rattle.image_laws.specs.Round.{store_read}
use Rattle.lists.specs.Over.{over}
use Rattle.lists.proofs.Over.{length_over}
use Rattle.table.proofs.Limits.{Holds, room_holds}
use Rattle.image_records.specs.First.{first}
use Rattle.image_records.specs.Images.{Image, image_at}
use Rattle.image_records.specs.Stores.{firsts, rows_of, slots_by}
use Rattle.image_records.proofs.Filled.{slots_length}
use Rattle.image_laws.proofs.Round.{write_read}
use Rattle.image_laws.proofs.Same.{same_entry, same_run, same_used, same_merged}

module _ (σ τ : Store) (same : Same σ τ) (l : Limits σ) (l' : Limits τ) (i : ℕ) (below : i < σ.s) (r : Rules σ i) where
  entry : entry_in σ i ≡ entry_in τ i
  entry = same_entry σ τ same i below

  run : run_in σ i ≡ run_in τ i
  run = same_run σ τ same i below l l' r.sound

  used : used_in σ i ≡ used_in τ i
  used = same_used σ τ same i below l l' r.sound

  next : i + 1 < σ.s → entry_in σ (i + 1) ≡ entry_in τ (i + 1)
  next h = same_entry σ τ same (i + 1) h

  inside : i + 1 < τ.s → i + 1 < σ.s
  inside h = rw same.s_same h

  first_cell : get_or τ.keys (entry_in σ i).base.0 0 ≡ (entry_in σ i).first.0
  first_cell = sym (same.keys_same (entry_in σ i).base.0 (omega (arith, r.sound))) ∙ r.first

  sizes : sizes_in σ ≡ sizes_in τ
  sizes = rw (same.e_same, same.b_same, same.n_same, same.s_same)

  near : (p : ℕ) → (entry_in σ i).base.0 ≤ p → p < (entry_in σ i).end.0 → Near (in_use τ) (entry_in σ i) (key_of (get_or τ.keys p 0)) p
  near p a z =
      subst (λ (y : Sizes). Near (in_use_of y) (entry_in σ i) (key_of (get_or τ.keys p 0)) p) sizes (rw (← same.keys_same p (omega (arith, r.sound))) (r.windows p a z))

  pub same_rules : Rules τ i
  same_rules =
      record {
        sound = rw (← entry, ← same.b_same, ← same.n_same) r.sound;
        nought = λ e. rw (← entry) (r.nought e);
        first = rw (← entry) first_cell;
        rising = subst (λ (x : List ℕ). RisingKeys x) (same_merged σ τ same i below l l' r.sound) r.rising;
        not_before = λ h k w. rw (← entry) (r.not_before h k (subst (λ (x : List ℕ). In k x) (sym used) w));
        run_apart = λ h k w. rw (← next (inside h)) (r.run_apart (inside h) k (subst (λ (x : List ℕ). In k x) (sym run) w));
        used_apart = λ h k w. rw (← next (inside h)) (r.used_apart (inside h) k (subst (λ (x : List ℕ). In k x) (sym used) w));
        windows = λ p a z. rw (← entry) (near p (rw entry a) (rw entry z));
      }

-- The same store, in slices within its limits, is accepted too.
pub same_accepted : (σ τ : Store) → Same σ τ → Limits τ → Accepted σ → Accepted τ
same_accepted σ τ same l' a =
    record { limits = l'; rules = λ i h. let below : i < σ.s = rw same.s_same h in same_rules σ τ same a.limits l' i below (a.rules i below) }

-- What is read of an accepted store's image, into slices with room enough, is accepted.
pub accepted_back :
    (σ : Store) (out : List ℕ) (z : ℕ) → Accepted σ → write_of σ (length out) ≡ Ok z → (keys t bs : List ℕ) → σ.n ≤ key_room keys → σ.s ≤ segment_room σ.b t bs
    → Accepted (store_read (take z (out_by (Ok z) σ out)) keys t bs (sizes_in σ))
accepted_back σ out z a w keys t bs k g =
    let l : List ℕ = take z (out_by (Ok z) σ out) in
    let v : Image = image_at first l in
    let h : Holds σ.b σ.s t bs = room_holds σ.b σ.s t bs (omega (arith, a.limits.b_least)) g in
    let n₁ : length (over keys 0 (firsts v.keys)) ≡ length keys = length_over keys 0 (firsts v.keys) in
    let n₂ : length (over t 0 (rows_of v.parts)) ≡ length t = length_over t 0 (rows_of v.parts) in
    let n₃ : length (slots_by σ.b v.parts 0 bs) ≡ length bs = slots_length σ.b v.parts 0 bs in
    same_accepted σ (store_read l keys t bs (sizes_in σ)) (write_read σ out z w keys t bs k g).same (omega (arith, a.limits, h, n₁, n₂, n₃, k)) a
