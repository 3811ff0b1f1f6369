-- The cells after an insert show the list of segments with the new ones in the place of the old one.
-- Assumes nothing.
use Rattle.std.specs.Prelude.{Ok}
use mathlib.Core.Path.{◌≡◌, refl, sym, ap, subst, ◌∙◌}
use mathlib.Core.List.{List, [], ◌∷◌, ◌++◌, append_assoc}
use Prim.Native.Nat.{ℕ, suc, ◌+◌, ◌-◌, ◌*◌, ◌≤◌, ◌<◌}
use native.Mathlib.Nat.{mul-le-mul_right}
use native.Mathlib.Omega.{arith}
use lib.ListN.{length, take, drop, set, length-append, length-drop}
use lib.Seq.{drop-drop, drop_at, take_at, length-take-le, drop-append-add}
use Rattle.lists.specs.Merge.{insert_sorted}
use Rattle.lists.proofs.Lists.{set_past}
use Rattle.lists.proofs.Merging.{length_insert, length_merge}
use Rattle.terms.specs.declared.Entry.{Entry}
use Rattle.table.specs.Store.{Store, in_use}
use Rattle.table.specs.Limits.{Limits}
use Rattle.table.specs.Entries.{entry_in}
use Rattle.cone.specs.Rule.{cut}
use Rattle.cutting.specs.Rows.{rows_of}
use Rattle.theory_segments.specs.Seg.{Seg, runs_of, buffered, merged_list, Bare}
use Rattle.theory_segments.specs.Cuts.{rows}
use Rattle.theory_segments.proofs.Insert.{runs_append}
use Rattle.theory_shown.specs.Shows.{seg_of, Slots, Shown}
use Rattle.theory_shown.proofs.Shown.{entry_by, shown_next, shown_entry, shown_segment}
use Rattle.answers.specs.declared.Inserted.TheVariants.{Buffered, Merged}
use Rattle.insert_write.specs.Merged.{merged_with}
use Rattle.insert_write.specs.Cells.{put_slots, raised, held_of, laid, joined_keys, slots_up, merged_keys, merged_table, merged_slots}
use Rattle.insert.specs.Cells.{store_by}
use Rattle.theory_kept.proofs.Cells.{rows_append, length_rows, raised_rows, slots_split, slots_join, HeldBy, slots_front, bare_slots, helds, held_rows, laid_slots, length_laid}

shown_skip : (σ : Store) (pre ys : List Seg) (i at j to : ℕ) → i + length pre ≡ j → at + length (runs_of pre) ≡ to → Shown σ i at (pre ++ ys) → Shown σ j to ys
shown_skip σ [] ys i at j to a c w =
    let p : i ≡ j = omega arith in
    let q : at ≡ to = omega arith in
    subst (λ (m : ℕ). Shown σ m to ys) p (subst (λ (m : ℕ). Shown σ i m ys) q w)
shown_skip σ (p ∷ pre) ys i at j to a c w =
    shown_skip σ pre ys (suc i) (at + length p.keys) j to (omega arith) (omega (arith, length-append p.keys (runs_of pre))) (shown_next σ i at p (pre ++ ys) w)

three : (a b c r : List ℕ) → a ++ (b ++ (c ++ r)) ≡ (a ++ (b ++ c)) ++ r
three a b c r = ap (λ (l : List ℕ). a ++ l) (sym (append_assoc b c r)) ∙ sym (append_assoc a (b ++ c) r)

module _ (σ : Store) (i k : ℕ) (pre post : List Seg) (x : Seg) (n : length pre ≡ i) (w : Shown σ 0 0 (pre ++ (x ∷ post))) where
  -- where x's run starts
  abbrev at : ℕ
  at = length (runs_of pre)

  here : Shown σ i at (x ∷ post)
  here = shown_skip σ pre (x ∷ post) 0 0 i at (omega arith) (omega arith) w

  later : Shown σ (suc i) (at + length x.keys) post
  later = shown_next σ i at x post here

  pub entry_is : entry_in σ i ≡ entry_by at x
  entry_is = shown_entry σ i at x post here

  pub segment_is : seg_of σ i ≡ x
  segment_is = shown_segment σ i at x post here

  base_is : (entry_in σ i).base.0 ≡ at
  base_is = ap (λ (y : Entry). y.base.0) entry_is

  end_is : (entry_in σ i).end.0 ≡ at + length x.keys
  end_is = ap (λ (y : Entry). y.end.0) entry_is

  rows_of_lem : (ys : List Seg) → rows 0 (pre ++ ys) ≡ rows 0 pre ++ rows at ys
  rows_of_lem ys = let e : 0 + at ≡ at = omega arith in rows_append 0 pre ys ∙ ap (λ (m : ℕ). rows 0 pre ++ rows m ys) e

  table_is : σ.table ≡ rows 0 pre ++ (rows at (x ∷ post) ++ w.more)
  table_is = w.table ∙ ap (λ (l : List ℕ). l ++ w.more) (rows_of_lem (x ∷ post)) ∙ append_assoc (rows 0 pre) (rows at (x ∷ post)) w.more

  length_pre : length (rows 0 pre) ≡ 5 * i
  length_pre = length_rows 0 pre ∙ ap (λ (m : ℕ). 5 * m) n

  keys_are : σ.keys ≡ runs_of pre ++ (runs_of (x ∷ post) ++ w.rest)
  keys_are = w.keys ∙ ap (λ (l : List ℕ). l ++ w.rest) (runs_append pre (x ∷ post)) ∙ append_assoc (runs_of pre) (runs_of (x ∷ post)) w.rest

  pub counted : i + suc (length post) ≡ σ.s
  counted = here.count

  slots_pre : Slots σ.b pre σ.buffers
  slots_pre = let e : 0 * σ.b ≡ 0 = omega arith in (slots_split σ.b pre (x ∷ post) σ.buffers (rw e at w.slots)).0

  module _ (limits : Limits σ) (holds : HeldBy σ.b pre) where
    -- ---- a buffered insert

    module _ (room : length x.used + 1 ≤ σ.b) where
      abbrev put : List ℕ
      put = insert_sorted k x.used

      abbrev after : List ℕ
      after = drop (i * σ.b + length x.used + 1) σ.buffers

      fits : i * σ.b + σ.b ≤ length σ.buffers
      fits = omega (arith, limits, mul-le-mul_right σ.b (let h : i < σ.s = omega (arith, counted) in h))

      slot_front : length (take (i * σ.b) σ.buffers) ≡ i * σ.b
      slot_front = length-take-le (i * σ.b) σ.buffers (omega (arith, fits))

      put_is : put_slots (i * σ.b) (entry_in σ i).held k σ.buffers ≡ take (i * σ.b) σ.buffers ++ (put ++ after)
      unfolding put_slots
      put_is = rw (entry_is, here.slots.0) refl

      put_past : drop σ.b (put ++ after) ≡ drop σ.b (drop (i * σ.b) σ.buffers)
      put_past =
          let l : length put ≡ suc (length x.used) = length_insert k x.used in
          let g : ℕ = σ.b - suc (length x.used) in
          let e : σ.b ≡ length put + g = omega (arith, l) in
          let f : i * σ.b + length x.used + 1 + g ≡ i * σ.b + σ.b = omega arith in
          ap (λ (m : ℕ). drop m (put ++ after)) e ∙ drop-append-add put after g ∙ drop-drop g (i * σ.b + length x.used + 1) σ.buffers
          ∙ ap (λ (m : ℕ). drop m σ.buffers) f ∙ sym (drop-drop σ.b (i * σ.b) σ.buffers)

      put_slots_lem : Slots σ.b (pre ++ (buffered k x ∷ post)) (take (i * σ.b) σ.buffers ++ (put ++ after))
      put_slots_lem =
          let m : length pre * σ.b ≡ i * σ.b = ap (λ (c : ℕ). c * σ.b) n in
          slots_join σ.b pre (buffered k x ∷ post) (take (i * σ.b) σ.buffers ++ (put ++ after))
          (slots_front σ.b (i * σ.b) pre σ.buffers (put ++ after) holds (omega (arith, m)) (omega (arith, fits)) slots_pre)
          (rw (m, drop_at (take (i * σ.b) σ.buffers) (put ++ after) (i * σ.b) slot_front)
          (take_at put after (length put) refl, rw put_past here.slots.1))

      runs_same : runs_of (pre ++ (buffered k x ∷ post)) ≡ runs_of (pre ++ (x ∷ post))
      runs_same = runs_append pre (buffered k x ∷ post) ∙ sym (runs_append pre (x ∷ post))

      put_table : set σ.table (5 * i + 4) ((entry_in σ i).held + 1) ≡ rows 0 (pre ++ (buffered k x ∷ post)) ++ w.more
      put_table =
          let v : (entry_in σ i).held + 1 ≡ length put = rw entry_is (omega (arith, length_insert k x.used)) in
          ap (λ (t : List ℕ). set t (5 * i + 4) ((entry_in σ i).held + 1)) table_is
          ∙ set_past (rows 0 pre) (rows at (x ∷ post) ++ w.more) (5 * i) 4 (5 * i + 4) ((entry_in σ i).held + 1) length_pre refl
          ∙ ap (λ (m : ℕ). rows 0 pre ++ (x.first ∷ (at ∷ (x.rise ∷ (x.run ∷ (m ∷ (rows (at + length x.keys) post ++ w.more))))))) v
          ∙ sym (append_assoc (rows 0 pre) (rows at (buffered k x ∷ post)) w.more) ∙ ap (λ (l : List ℕ). l ++ w.more) (sym (rows_of_lem (buffered k x ∷ post)))

      pub buffered_shown : (j : ℕ) → Shown (store_by (Ok (Buffered i j)) σ k) 0 0 (pre ++ (buffered k x ∷ post))
      buffered_shown j =
          let z : 0 * σ.b ≡ 0 = omega arith in
          record {
            count = omega (arith, w.count, length-append pre (buffered k x ∷ post), length-append pre (x ∷ post));
            total = ap (λ (l : List ℕ). 0 + length l) runs_same ∙ w.total;
            more = w.more;
            table = put_table;
            rest = w.rest;
            keys = w.keys ∙ ap (λ (l : List ℕ). l ++ w.rest) (sym runs_same);
            slots = rw (z, put_is) put_slots_lem;
          }

      pub length_put : length (put_slots (i * σ.b) (entry_in σ i).held k σ.buffers) ≡ length σ.buffers
      length_put =
          ap length put_is
          ∙ omega (arith, fits, slot_front, length-append (take (i * σ.b) σ.buffers) (put ++ after), length-append put after, length_insert k x.used, length-drop (i * σ.b + length x.used + 1) σ.buffers)

    -- ---- a merge

    module _ (new : List Seg) (t : ℕ) (pieces : length new ≡ t) (bare : Bare new) (whole : runs_of new ≡ merged_with σ i k)
        (entries : rows_of (entry_in σ i).base.0 (cut (in_use σ) (merged_with σ i k)) ≡ rows (entry_in σ i).base.0 new) (full : length x.used + 1 ≡ σ.b) (held : HeldBy σ.b post)
        (room : (σ.s - 1 + t) * σ.b ≤ length σ.buffers) where
      list_is : merged_with σ i k ≡ merged_list k x
      unfolding seg_of
      list_is = ap (merged_list k) segment_is

      new_length : length (runs_of new) ≡ length x.keys + σ.b
      new_length = ap length (whole ∙ list_is) ∙ omega (arith, length_merge x.keys (insert_sorted k x.used), length_insert k x.used)

      runs_new : runs_of (pre ++ (new ++ post)) ≡ runs_of pre ++ (runs_of new ++ runs_of post)
      runs_new = runs_append pre (new ++ post) ∙ ap (λ (l : List ℕ). runs_of pre ++ l) (runs_append new post)

      rows_new : rows 0 (pre ++ (new ++ post)) ≡ rows 0 pre ++ (rows at new ++ rows (at + length (runs_of new)) post)
      rows_new = rows_of_lem (new ++ post) ∙ ap (λ (l : List ℕ). rows 0 pre ++ l) (rows_append at new post)

      left : σ.s - (i + 1) ≡ length post
      left = omega (arith, counted)

      next : i + 1 ≡ suc i
      next = omega arith

      later_table : drop (5 * (i + 1)) σ.table ≡ rows (at + length x.keys) post ++ later.more
      later_table = ap (λ (m : ℕ). drop (5 * m) σ.table) next ∙ later.table

      table_new : merged_table σ i k t ≡ rows 0 (pre ++ (new ++ post)) ++ drop (5 * (σ.s - 1 + t)) σ.table
      unfolding merged_table
      table_new =
          let p : take (5 * i) σ.table ≡ rows 0 pre = ap (take (5 * i)) table_is ∙ take_at (rows 0 pre) (rows at (x ∷ post) ++ w.more) (5 * i) length_pre in
          let q : raised (σ.s - (i + 1)) σ.b (drop (5 * (i + 1)) σ.table) ≡ rows (at + length (runs_of new)) post =
          ap (λ (m : ℕ). raised m σ.b (drop (5 * (i + 1)) σ.table)) left ∙ ap (raised (length post) σ.b) later_table
          ∙ raised_rows (at + length x.keys) (at + length (runs_of new)) σ.b post later.more (omega (arith, new_length)) in
          rw (p, entries, base_is, q, rows_new) (three (rows 0 pre) (rows at new) (rows (at + length (runs_of new)) post) (drop (5 * (σ.s - 1 + t)) σ.table))

      keys_new : merged_keys σ i k ≡ runs_of (pre ++ (new ++ post)) ++ drop (σ.n + σ.b) σ.keys
      unfolding joined_keys
      keys_new =
          let p : take at σ.keys ≡ runs_of pre = ap (take at) keys_are ∙ take_at (runs_of pre) (runs_of (x ∷ post) ++ w.rest) at refl in
          let c : σ.n - (at + length x.keys) ≡ length (runs_of post) = omega (arith, later.total) in
          let q : take (length (runs_of post)) (drop (at + length x.keys) σ.keys) ≡ runs_of post =
          ap (take (length (runs_of post))) later.keys ∙ take_at (runs_of post) later.rest (length (runs_of post)) refl in
          let v : runs_of new ≡ merged_list k x = whole ∙ list_is in
          rw (list_is, base_is, end_is, p, c, q, runs_new, v) (three (runs_of pre) (merged_list k x) (runs_of post) (drop (σ.n + σ.b) σ.keys))

      abbrev laid_new : List ℕ
      laid_new = laid σ.b (held_of (σ.s - (i + 1)) (drop (5 * (i + 1)) σ.table)) (drop ((i + 1) * σ.b) σ.buffers) (drop ((i + t) * σ.b) σ.buffers)

      laid_is : laid_new ≡ laid σ.b (helds post) (drop ((i + 1) * σ.b) σ.buffers) (drop ((i + t) * σ.b) σ.buffers)
      laid_is =
          ap (λ (l : List ℕ). laid σ.b l (drop ((i + 1) * σ.b) σ.buffers) (drop ((i + t) * σ.b) σ.buffers))
          (ap (λ (m : ℕ). held_of m (drop (5 * (i + 1)) σ.table)) left ∙ ap (held_of (length post)) later_table ∙ held_rows (at + length x.keys) post later.more)

      all_room : (i + t) * σ.b + length post * σ.b ≤ length σ.buffers
      all_room =
          let e : σ.s - 1 + t ≡ i + t + length post = omega (arith, counted) in
          let r : (i + t + length post) * σ.b ≤ length σ.buffers = subst (λ (m : ℕ). m * σ.b ≤ length σ.buffers) e room in
          omega (arith, r)

      most : (i + t) * σ.b ≤ length σ.buffers
      most = omega (arith, all_room)

      onto_room : length post * σ.b ≤ length (drop ((i + t) * σ.b) σ.buffers)
      onto_room = omega (arith, all_room, length-drop ((i + t) * σ.b) σ.buffers)

      from_slots : Slots σ.b post (drop ((i + 1) * σ.b) σ.buffers)
      from_slots = rw next later.slots

      slots_new : Slots σ.b (pre ++ (new ++ post)) (merged_slots σ i t)
      unfolding slots_up
      slots_new =
          let cells : List ℕ = merged_slots σ i t in
          let c : ℕ = (i + t) * σ.b in
          let m : length pre * σ.b ≡ i * σ.b = ap (λ (c : ℕ). c * σ.b) n in
          let u : length new * σ.b ≡ t * σ.b = ap (λ (c : ℕ). c * σ.b) pieces in
          let a : i * σ.b + length new * σ.b ≡ c = omega (arith, u) in
          slots_join σ.b pre (new ++ post) cells
          (slots_front σ.b c pre σ.buffers laid_new holds (omega (arith, m, a)) most slots_pre)
          (slots_join σ.b new post (drop (length pre * σ.b) cells) (bare_slots σ.b new (drop (length pre * σ.b) cells) bare)
          (rw (m, drop-drop (length new * σ.b) (i * σ.b) cells, a, drop_at (take c σ.buffers) laid_new c (length-take-le c σ.buffers most), laid_is)
          (laid_slots σ.b post (drop ((i + 1) * σ.b) σ.buffers) (drop c σ.buffers) held onto_room from_slots)))

      pub length_slots : length (merged_slots σ i t) ≡ length σ.buffers
      unfolding slots_up
      length_slots =
          let c : ℕ = (i + t) * σ.b in
          ap (λ (l : List ℕ). length (take c σ.buffers ++ l)) laid_is
          ∙ omega (
            arith,
            most,
            length-append (take c σ.buffers) (laid σ.b (helds post) (drop ((i + 1) * σ.b) σ.buffers) (drop c σ.buffers)),
            length-take-le c σ.buffers most,
            length_laid σ.b post (drop ((i + 1) * σ.b) σ.buffers) (drop c σ.buffers) held onto_room from_slots,
            length-drop c σ.buffers,
          )

      pub merged_shown : Shown (store_by (Ok (Merged i t (σ.n + σ.b) (σ.s - 1 + t))) σ k) 0 0 (pre ++ (new ++ post))
      merged_shown =
          let z : 0 * σ.b ≡ 0 = omega arith in
          record {
            count = omega (arith, counted, n, pieces, length-append pre (new ++ post), length-append new post);
            total = ap (λ (l : List ℕ). 0 + length l) runs_new ∙ omega (arith, later.total, new_length, length-append (runs_of pre) (runs_of new ++ runs_of post), length-append (runs_of new) (runs_of post));
            more = drop (5 * (σ.s - 1 + t)) σ.table;
            table = table_new;
            rest = drop (σ.n + σ.b) σ.keys;
            keys = keys_new;
            slots = rw z slots_new;
          }
