-- Demand 2 and demand 3, "so is whatever our inserts leave of an accepted store": after an insert the store is accepted, and its reads are the
-- same list, with k in its place if it was taken in. And what a merge leaves is the cut of the merged list.
-- Assumes nothing.
use Rattle.std.specs.Prelude.{Result, Ok, Err}
use mathlib.Core.Path.{◌≡◌, refl, sym, ap, subst, ◌∙◌}
use mathlib.Core.List.{List, [], ◌∷◌, ◌++◌}
use Prim.Native.Nat.{ℕ, zero, suc, ◌+◌, ◌-◌, ◌*◌, ◌≤◌, ◌<◌}
use native.Mathlib.Omega.{arith}
use lib.ListN.{length, take, drop, set, length-set, length-append}
use lib.Seq.{take_at, drop_at, length-take-le}
use Rattle.lists.specs.Rising.{In}
use Rattle.lists.specs.Merge.{insert_sorted, place_of}
use Rattle.terms.specs.Limits.{key_limit}
use Rattle.terms.specs.declared.Refusal.{Refusal}
use Rattle.table.specs.Store.{Store, in_use}
use Rattle.table.specs.Limits.{Limits, key_room, segment_room}
use Rattle.table.specs.Entries.{entry_in, used_in}
use Rattle.table.specs.Reads.{reads}
use Rattle.table.proofs.Limits.{Holds as Roomy, room_holds}
use Rattle.judge.specs.Rules.{Accepted}
use Rattle.judge_laws.proofs.Bridge.{first_is}
use Rattle.cone.specs.Rule.{cut}
use Rattle.cone.specs.Keys.{Cuttable}
use Rattle.cutting.specs.Rows.{rows_of}
use Rattle.cutting.proofs.Rows.{rows_length}
use Rattle.theory_segments.specs.Seg.{Seg, ceil, all_of, Chain, reads_of, runs_of, buffered, merged_list, Cutting}
use Rattle.theory_segments.specs.Cuts.{cut_segs, rows}
use Rattle.theory_segments.proofs.Insert.{Swap, chain_spliced, reads_spliced, buffered_swap, merged_swap}
use Rattle.theory_segments.proofs.Cuts.{length_segs_by, cutting, rows_cut}
use Rattle.theory_shown.specs.Shows.{seg_of, segs_from, segments, Shown}
use Rattle.theory_shown.proofs.Shown.{stretch_reads, shown_reads}
use Rattle.theory_shown.proofs.Accepts.{shown_accepted}
use Rattle.theory_shown.proofs.Views.{first_of_seg, all_of_lem, length_segs, segs_split, length_used, accepted_chain, accepted_shown}
use Rattle.answers.specs.declared.Inserted.{Inserted}
use Rattle.answers.specs.declared.Inserted.TheVariants.{Buffered, Merged}
use Rattle.insert_write.specs.Merged.{merged_with, pieces_of}
use Rattle.insert.specs.Insert.{insert_of}
use Rattle.insert_write.specs.Cells.{put_slots, joined_keys, merged_keys, merged_table, merged_slots}
use Rattle.insert.specs.Cells.{store_by}
use Rattle.theory_kept.specs.Outcome.{Wanted, Outcome, large, present, no_keys, no_segments, buffered as put, merged}
use Rattle.theory_kept.specs.Recut.{Recut, Leaves}
use Rattle.theory_kept.specs.After.{after_one, list_by}
use Rattle.theory_kept.proofs.Cells.{HeldBy, length_rows, some_segs}
use Rattle.theory_kept.proofs.Splices.{buffered_shown, length_put, merged_shown, length_slots}
use Rattle.theory_kept.proofs.Outcome.{outcome, other_here, list_is, list_rises, list_length}

-- no segment holds more than its buffer
segs_held : (σ : Store) → Accepted σ → (c i : ℕ) → i + c ≤ σ.s → HeldBy σ.b (segs_from σ i c)
unfolding seg_of
segs_held σ ok zero i h = tt
segs_held σ ok (suc c) i h =
    let inside : i < σ.s = omega arith in
    (omega (arith, length_used σ ok i inside, (ok.rules i inside).sound.held_below), segs_held σ ok c (suc i) (omega arith))

module _ (σ : Store) (ok : Accepted σ) (k i : ℕ) (wanted : Wanted σ k i) where
  -- the segments before i, segment i and those after it

  abbrev pre : List Seg
  pre = segs_from σ 0 i

  abbrev x : Seg
  x = seg_of σ i

  abbrev post : List Seg
  post = segs_from σ (suc i) (σ.s - suc i)

  inside : i < σ.s
  inside = wanted.chosen.inside

  parted : segments σ ≡ pre ++ (x ∷ post)
  parted =
      let e : σ.s ≡ i + suc (σ.s - suc i) = omega (arith, inside) in
      let f : 0 + i ≡ i = omega arith in
      ap (λ (m : ℕ). segs_from σ 0 m) e ∙ segs_split σ i (suc (σ.s - suc i)) 0 ∙ ap (λ (m : ℕ). pre ++ segs_from σ m (suc (σ.s - suc i))) f

  shown : Shown σ 0 0 (pre ++ (x ∷ post))
  shown = subst (λ (l : List Seg). Shown σ 0 0 l) parted (accepted_shown σ ok)

  chain : Chain (in_use σ) σ.b 0 key_limit (pre ++ (x ∷ post))
  chain = subst (λ (l : List Seg). Chain (in_use σ) σ.b 0 key_limit l) parted (accepted_chain σ ok)

  length_pre : length pre ≡ i
  length_pre = length_segs σ i 0

  holds_pre : HeldBy σ.b pre
  holds_pre = segs_held σ ok i 0 (omega (arith, inside))

  below_from : (c : ℕ) → i + suc c ≡ σ.s → k < ceil key_limit (segs_from σ (suc i) c)
  below_from zero e = wanted.small
  below_from (suc c) e =
      rw (first_of_seg σ (suc i)) (rw (first_is σ (suc i)) (wanted.chosen.above (suc i) (omega arith) (omega arith)))

  below : k < ceil key_limit post
  below = below_from (σ.s - suc i) (omega (arith, inside))

  from : 0 < length pre → x.first ≤ k
  from h = rw (first_of_seg σ i) (rw (first_is σ i) (wanted.chosen.found (omega (arith, length_pre))))

  other : In k (all_of x) → ⊥
  other a = other_here σ ok k i wanted (subst (λ (l : List ℕ). In k l) (all_of_lem σ i) a)

  used_length : length x.used ≡ (entry_in σ i).held
  unfolding seg_of
  used_length = length_used σ ok i inside

  -- whatever may stand where segment i stands
  module _ (new : List Seg) (swap : Swap (in_use σ) σ.b key_limit k x post new) where
    new_chain : Chain (in_use σ) σ.b 0 key_limit (pre ++ (new ++ post))
    new_chain = chain_spliced (in_use σ) σ.b key_limit k x post new swap pre 0 (omega arith) from chain

    new_reads : (τ : Store) → Shown τ 0 0 (pre ++ (new ++ post)) → reads τ ≡ insert_sorted k (reads σ)
    new_reads τ w =
        shown_reads τ (pre ++ (new ++ post)) w ∙ reads_spliced (in_use σ) σ.b key_limit k x post new swap pre 0 from below chain
        ∙ sym (ap (insert_sorted k) (stretch_reads σ σ.s 0 ∙ ap reads_of parted))

  -- ---- a buffered insert

  module _ (j : ℕ) (room : (entry_in σ i).held + 1 < σ.b) where
    abbrev put_store : Store
    put_store = store_by (Ok (Buffered i j)) σ k

    used_room : length x.used + 1 < σ.b
    used_room = omega (arith, used_length)

    put_swap : Swap (in_use σ) σ.b key_limit k x post (buffered k x ∷ [])
    put_swap = buffered_swap (in_use σ) σ.b key_limit k x post below other used_room

    put_shown : Shown put_store 0 0 (pre ++ (buffered k x ∷ post))
    put_shown = buffered_shown σ i k pre post x length_pre shown ok.limits holds_pre (omega (arith, used_room)) j

    put_limits : Limits put_store
    put_limits =
        let t : length (set σ.table (5 * i + 4) ((entry_in σ i).held + 1)) ≡ length σ.table = simp length-set in
        let u : length (put_slots (i * σ.b) (entry_in σ i).held k σ.buffers) ≡ length σ.buffers =
        length_put σ i k pre post x length_pre shown ok.limits holds_pre (omega (arith, used_room)) in
        omega (arith, ok.limits, t, u)

    put_accepted : Accepted put_store
    put_accepted = shown_accepted put_store put_limits (pre ++ (buffered k x ∷ post)) put_shown (new_chain (buffered k x ∷ []) put_swap)

    put_reads : reads put_store ≡ insert_sorted k (reads σ)
    put_reads = new_reads (buffered k x ∷ []) put_swap put_store put_shown

  -- ---- a merge

  module _ (full : (entry_in σ i).held + 1 ≡ σ.b) (keys_room : σ.n + σ.b ≤ key_room σ.keys)
      (segments_room : σ.s - 1 + pieces_of σ i k ≤ segment_room σ.b σ.table σ.buffers) where
    abbrev t : ℕ
    t = pieces_of σ i k

    abbrev new : List Seg
    new = cut_segs (in_use σ) (merged_with σ i k)

    abbrev cut_store : Store
    cut_store = store_by (Ok (Merged i t (σ.n + σ.b) (σ.s - 1 + t))) σ k

    some_slots : 0 < σ.b
    some_slots = omega (arith, ok.limits.b_least)

    room : Roomy σ.b (σ.s - 1 + t) σ.table σ.buffers
    room = room_holds σ.b (σ.s - 1 + t) σ.table σ.buffers some_slots segments_room

    long : length (merged_with σ i k) ≡ (entry_in σ i).end.0 - (entry_in σ i).base.0 + ((entry_in σ i).held + 1)
    long = list_length σ ok k i wanted

    cuttable : Cuttable (in_use σ) (merged_with σ i k)
    cuttable =
        record {
          bound = omega (arith, ok.limits.e_limit);
          few = omega (arith, long, full, (ok.rules i inside).sound, keys_room);
          rising = list_rises σ ok k i wanted;
        }

    is_cut : Cutting (in_use σ) σ.b (merged_with σ i k) new
    is_cut = cutting (in_use σ) σ.b (merged_with σ i k) some_slots cuttable

    pieces : length new ≡ t
    pieces = length_segs_by (merged_with σ i k) (cut (in_use σ) (merged_with σ i k))

    seg_list : merged_list k x ≡ merged_with σ i k
    unfolding seg_of
    seg_list = refl

    cut_swap : Swap (in_use σ) σ.b key_limit k x post new
    cut_swap = merged_swap (in_use σ) σ.b key_limit k x post below other new (subst (λ (l : List ℕ). Cutting (in_use σ) σ.b l new) (sym seg_list) is_cut)

    used_full : length x.used + 1 ≡ σ.b
    used_full = omega (arith, used_length)

    holds_post : HeldBy σ.b post
    holds_post = segs_held σ ok (σ.s - suc i) (suc i) (omega (arith, inside))

    entries : rows_of (entry_in σ i).base.0 (cut (in_use σ) (merged_with σ i k)) ≡ rows (entry_in σ i).base.0 new
    entries = rows_cut (in_use σ) (merged_with σ i k) (entry_in σ i).base.0

    cut_shown : Shown cut_store 0 0 (pre ++ (new ++ post))
    cut_shown =
        merged_shown σ i k pre post x length_pre shown ok.limits holds_pre new t pieces is_cut.bare is_cut.whole entries used_full holds_post room.buffers_hold

    some_new : 0 < t
    some_new = some_segs new (merged_with σ i k) t is_cut.whole pieces (omega (arith, long))

    cut_limits : Limits cut_store
    cut_limits =
        let r : length (merged_slots σ i t) ≡ length σ.buffers =
        length_slots σ i k pre post x length_pre shown ok.limits holds_pre new t pieces is_cut.bare is_cut.whole entries used_full holds_post room.buffers_hold in
        let u : length (merged_table σ i k t) ≡ 5 * length (pre ++ (new ++ post)) + length cut_shown.more =
        ap length cut_shown.table ∙ length-append (rows 0 (pre ++ (new ++ post))) cut_shown.more ∙ ap (λ (m : ℕ). m + length cut_shown.more) (length_rows 0 (pre ++ (new ++ post))) in
        let v : length (merged_keys σ i k) ≡ length (runs_of (pre ++ (new ++ post))) + length cut_shown.rest =
        ap length cut_shown.keys ∙ length-append (runs_of (pre ++ (new ++ post))) cut_shown.rest in
        omega (arith, ok.limits, room, keys_room, r, u, v, cut_shown.count, cut_shown.total, some_new)

    cut_accepted : Accepted cut_store
    cut_accepted = shown_accepted cut_store cut_limits (pre ++ (new ++ post)) cut_shown (new_chain new cut_swap)

    -- the cells that are new
    recut : Recut σ k i t (σ.n + σ.b) (σ.s - 1 + t)
    recut =
        record {
          pieces = ap (λ (l : List ℕ). length (cut (in_use σ) l)) (list_is σ ok k i wanted);
          n_grows = refl;
          s_grows = refl;
          entries = entries_left ∙ ap (λ (l : List ℕ). rows_of (entry_in σ i).base.0 (cut (in_use σ) l)) (list_is σ ok k i wanted);
          keys = subst (λ (l : List ℕ). take (length l) (drop (entry_in σ i).base.0 (merged_keys σ i k)) ≡ l) (list_is σ ok k i wanted) keys_left;
        }
      where
        entries_left : take (5 * t) (drop (5 * i) (merged_table σ i k t)) ≡ rows_of (entry_in σ i).base.0 (cut (in_use σ) (merged_with σ i k))
        entries_left = unfold merged_table in
            ap (take (5 * t)) (drop_at (take (5 * i) σ.table) _ (5 * i) (length-take-le (5 * i) σ.table (omega (arith, ok.limits, inside))))
            ∙ take_at (rows_of (entry_in σ i).base.0 (cut (in_use σ) (merged_with σ i k))) _ (5 * t) (rows_length (entry_in σ i).base.0 (cut (in_use σ) (merged_with σ i k)))

        keys_left : take (length (merged_with σ i k)) (drop (entry_in σ i).base.0 (merged_keys σ i k)) ≡ merged_with σ i k
        keys_left = unfold joined_keys in
            ap (take (length (merged_with σ i k)))
            (drop_at (take (entry_in σ i).base.0 σ.keys) _ (entry_in σ i).base.0 (length-take-le (entry_in σ i).base.0 σ.keys (omega (arith, ok.limits, (ok.rules i inside).sound))))
            ∙ take_at (merged_with σ i k) _ (length (merged_with σ i k)) refl

    cut_reads : reads cut_store ≡ insert_sorted k (reads σ)
    cut_reads = new_reads new cut_swap cut_store cut_shown

-- an answer with what it leaves
record Kept (σ : Store) (k : ℕ) (a : Result Inserted Refusal) : Type 0 where
  accepted : Accepted (store_by a σ k)
  reads_as : reads (store_by a σ k) ≡ list_by a k (reads σ)
  leaves : Leaves σ k a

module _ (σ : Store) (ok : Accepted σ) (k : ℕ) where
  same : (r : Refusal) → Kept σ k (Err r)
  same r = record { accepted = ok; reads_as = refl; leaves = tt }

  by_outcome : {a : Result Inserted Refusal} → Outcome σ k a → Kept σ k a
  by_outcome (large h) = same _
  by_outcome (present h r) = same _
  by_outcome (no_keys d h) = same _
  by_outcome (no_segments d h r) = same _
  by_outcome (put {i} w h) =
      let j : ℕ = place_of k (used_in σ i) in
      record { accepted = put_accepted σ ok k i w j h; reads_as = put_reads σ ok k i w j h; leaves = tt }
  by_outcome (merged {i} d h r) =
      let w : Wanted σ k i = d.wanted in
      record { accepted = cut_accepted σ ok k i w d.full h r; reads_as = cut_reads σ ok k i w d.full h r; leaves = recut σ ok k i w d.full h r }

  kept : Kept σ k (insert_of σ k)
  kept = by_outcome (outcome σ ok k)

  -- Whatever insert answers, what it leaves of an accepted store is accepted.
  pub insert_accepted : Accepted (after_one σ k)
  insert_accepted = kept.accepted

  -- What the store then reads as is the plain list it read as, with k in its rising place if k was taken in, and the same if it was refused.
  pub insert_reads : reads (after_one σ k) ≡ list_by (insert_of σ k) k (reads σ)
  insert_reads = kept.reads_as

  -- "our merge cut[s] any list of keys as the published ShrinkingCone rule does": a merge leaves exactly the cut of the segment's reads with k among them.
  pub merge_recuts : {i t n s : ℕ} → insert_of σ k ≡ Ok (Merged i t n s) → Recut σ k i t n s
  merge_recuts e = subst (λ (a : Result Inserted Refusal). Leaves σ k a) e kept.leaves
