-- Demand 2, its last sentence: writing a store and reading it gives the same store, and reading an image and writing it gives the same bytes.
-- And what reading does not touch.
-- Assumes nothing.
use Rattle.std.specs.Prelude.{Ok}
use mathlib.Core.Path.{◌≡◌, refl, sym, ap, ◌∙◌, subst}
use mathlib.Core.Bool.{true}
use mathlib.Core.List.{List}
use mathlib.Core.Logic.{inl, inr}
use Prim.Native.Nat.{ℕ, zero, suc, ◌+◌, ◌-◌, ◌*◌, ◌≤◌, ◌<◌}
use native.Mathlib.Omega.{arith}
use lib.Dec.{leb, ltb}
use lib.ListN.{length, get_or, take, drop}
use lib.Seq.{take_at}
use borrow.Author.Tests.{leb-true, leb-false, ltb-true, ltb-false}
use Rattle.lists.specs.Over.{over}
use Rattle.lists.proofs.Tests.{either}
use Rattle.lists.proofs.Over.{length_over, over_after, over_start}
use Rattle.image_little.specs.Little.{Bytes}
use Rattle.terms.specs.declared.Sizes.{Sizes}
use Rattle.terms.specs.Limits.{sizes_of}
use Rattle.table.specs.Store.{Store, store_of, sizes_in}
use Rattle.table.specs.Limits.{Limits, Counted, key_room, segment_room}
use Rattle.table.specs.Entries.{entry_of, entry_in}
use Rattle.image_records.specs.Records.{total, fields_at, stands_at, kind_of}
use Rattle.image_records.specs.Images.{layout_of, rest_of, well_of, Image, image_bytes, image_at, Good}
use Rattle.image_records.specs.Meaning.{Rest}
use Rattle.image_records.specs.First.{first}
use Rattle.image_records.specs.Stores.{singles_in, parts_in, image_in, firsts, rows_of, head_sizes, filled_of, Apart}
use Rattle.image_records.proofs.Records.{no_fault, stands_true}
use Rattle.image_records.proofs.Images.{read_written, written_read}
use Rattle.image_records.proofs.Accepted.{read_good}
use Rattle.image_records.proofs.Meaning.{rest_is}
use Rattle.image_records.proofs.First.{first_proper}
use Rattle.image_records.proofs.Filled.{filled_image, slots_length, slots_kept, firsts_length, rows_length}
use Rattle.image_judge.specs.Judging.{sizes_at}
use Rattle.image_read.specs.Loading.{load_of}
use Rattle.image_read.proofs.Told.{told_well, told_head}
use Rattle.image_read.proofs.Laws.{Taken, taken}
use Rattle.image_write.specs.Writing.{length_of, write_of, out_by}
use Rattle.image_write.proofs.Laws.{Told as Writes, written_told}
use Rattle.image_laws.specs.Writing.{Entries, Run, bytes_of, written}
use Rattle.image_laws.specs.Reading.{e_in, b_in, n_in, s_in, Formed}
use Rattle.image_laws.specs.Reading as reading
use Rattle.image_laws.specs.Round.{store_read, Back, Again, Kept}
use Rattle.image_laws.proofs.Writing.{entry_writable, cells_small, write_only}
use Rattle.image_laws.proofs.Reading.{read_only}
use Rattle.image_laws.proofs.Good.{singles_length, image_good, good_entries, good_run}
use Rattle.image_laws.proofs.Same.{same_image}

module _ (l : List ℕ) where
  -- the head's numbers, in the image and in the bytes
  head_is : head_sizes (image_at first l) ≡ sizes_at l
  unfolding image_at fields_at
  head_is = refl

  -- the store that reading leaves is the one that the image fills
  store_filled : (keys t bs : List ℕ) (z : Sizes) → z ≡ head_sizes (image_at first l) → store_read l keys t bs z ≡ filled_of (image_at first l) keys t bs
  store_filled keys t bs z q = rw q

-- ---- write, then read

-- a store that writing accepts
module _ (σ : Store) (room z : ℕ) (w : write_of σ room ≡ Ok z) where
  told : Writes σ room z
  told = written_told σ room z w

  entries : Entries σ
  entries i h = entry_writable σ i (told.right.entries i h)

  run : Run σ
  run p h = cells_small σ.keys 0 σ.n told.right.run p (omega arith) h

  good : Good first (image_in σ)
  good = image_good σ told.limits entries run

  pub length_told : z ≡ length (image_bytes first (image_in σ))
  unfolding length_of
  length_told = told.is

  pub room_told : length (image_bytes first (image_in σ)) ≤ room
  unfolding length_of
  room_told = told.space

  module _ (keys t bs : List ℕ) (keys_room : σ.n ≤ key_room keys) (segments_room : σ.s ≤ segment_room σ.b t bs) where
    abbrev l : List ℕ
    l = image_bytes first (image_in σ)

    well_rest : (y : ℕ) → well_of first l ≡ Ok y → (stands_at (kind_of first.head) l 0 ≡ true) × (rest_of (layout_of first) l (b_in l) (n_in l) (s_in l) 9 ≡ Ok y)
    unfolding well_of fields_at total
    well_rest y e = either (stands_at (kind_of first.head) l 0) (λ x. (x, simp x at e)) (λ x. no_fault 0 y (simp x at e))

    module _ (y : ℕ) (e : well_of first l ≡ Ok y) (same : image_at first l ≡ image_in σ) where
      same_sizes : sizes_at l ≡ sizes_in σ
      unfolding image_in
      same_sizes = sym (head_is l) ∙ ap head_sizes same

      counted : Counted (e_in l) (b_in l) (n_in l) (s_in l)
      counted =
          let c : Counted σ.e σ.b σ.n σ.s = omega (arith, told.limits) in
          subst (λ (z : Sizes). Counted z.e z.b z.n z.s) (sym same_sizes) c

      formed : Formed l
      formed =
          let r : _ = well_rest y e in
          let x : Rest (layout_of first) l (b_in l) (n_in l) (s_in l) 9 (rest_of (layout_of first) l (b_in l) (n_in l) (s_in l) 9) = rest_is (layout_of first) l (b_in l) (n_in l) (s_in l) 9 in
          record { headed = record { head = stands_true (kind_of first.head) l 0 r.0; counted = counted }; last = y; rest = rw r.1 at x }

      loads : load_of l keys t bs ≡ Ok (sizes_of σ.e σ.b σ.n σ.s)
      loads =
          let k : n_in l ≤ key_room keys = subst (λ (z : Sizes). z.n ≤ key_room keys) (sym same_sizes) keys_room in
          let g : s_in l ≤ segment_room (b_in l) t bs = subst (λ (z : Sizes). z.s ≤ segment_room z.b t bs) (sym same_sizes) segments_room in
          sym (read_only l keys t bs (Ok (sizes_of (e_in l) (b_in l) (n_in l) (s_in l))) (reading.taken formed k g)) ∙
          ap Ok same_sizes

      fill_room : Limits (store_of (head_sizes (image_in σ)) keys t bs)
      unfolding image_in
      fill_room = (taken l keys t bs (sizes_in σ) loads).limits

      image_same : image_in (store_read l keys t bs (sizes_in σ)) ≡ image_in σ
      image_same =
          ap image_in (store_filled l keys t bs (sizes_in σ) (sym same_sizes ∙ sym (head_is l))) ∙ ap (λ (v : Image). image_in (filled_of v keys t bs)) same ∙
          filled_image (image_in σ) keys t bs good fill_room

      back : Back σ l keys t bs
      back = record { answer = loads; same = same_image σ (store_read l keys t bs (sizes_in σ)) (sym image_same) }

    pub image_back : Back σ l keys t bs
    image_back = read_written first first_proper (image_in σ) good (λ y e same. back y e same)

-- For every store that writing accepts: the out slice then starts with its image, and reading those bytes into slices with room enough
-- gives the same e, B, n, s and the same used cells.
pub write_read : (σ : Store) (out : List ℕ) (z : ℕ) → write_of σ (length out) ≡ Ok z → (keys t bs : List ℕ) → σ.n ≤ key_room keys → σ.s ≤ segment_room σ.b t bs →
    Back σ (take z (out_by (Ok z) σ out)) keys t bs
write_read σ out z w keys t bs k g =
    let n : length (image_bytes first (image_in σ)) ≡ z = sym (length_told σ (length out) z w) in
    let r : length (image_bytes first (image_in σ)) ≤ length out = room_told σ (length out) z w in
    let bytes : take z (over out 0 (image_bytes first (image_in σ))) ≡ image_bytes first (image_in σ) =
    rw (over_start out (image_bytes first (image_in σ)) r) (take_at (image_bytes first (image_in σ)) (drop (length (image_bytes first (image_in σ))) out) z n) in
    rw bytes (image_back σ (length out) z w keys t bs k g)

-- ---- slots that a store does not use

parts_of : (σ : Store) → (image_in σ).parts ≡ parts_in σ.b σ.table σ.buffers 0 σ.s
unfolding image_in
parts_of σ = refl

apart_in : (b p : ℕ) (t bs : List ℕ) (i count : ℕ) → ((k : ℕ) → i ≤ k → k < i + count → (j : ℕ) → j < get_or t (5 * k + 4) 0 → p ≡ k * b + j → ⊥) → Apart b p i (parts_in b t bs i count)
unfolding parts_in
apart_in b p t bs i zero free = tt
apart_in b p t bs i (suc count) free =
    let n : length (singles_in bs (i * b) (get_or t (5 * i + 4) 0)) ≡ get_or t (5 * i + 4) 0 = singles_length bs (i * b) (get_or t (5 * i + 4) 0) in (
      either (ltb p (i * b)) (λ x. inl (ltb-true p (i * b) x))
          (λ x. either (leb (i * b + get_or t (5 * i + 4) 0) p) (λ y. inr (let h : i * b + get_or t (5 * i + 4) 0 ≤ p = leb-true (i * b + get_or t (5 * i + 4) 0) p y in omega (arith, n)))
          (λ y. absurd (free i (omega arith) (omega arith) (p - i * b) (omega (arith, ltb-false p (i * b) x, leb-false (i * b + get_or t (5 * i + 4) 0) p y)) (omega (arith, ltb-false p (i * b) x))))),
      apart_in b p t bs (i + 1) count (λ k a c. free k (omega arith) (omega arith)),
    )

-- ---- read, then write

module _ (l keys t bs : List ℕ) (e b n s : ℕ) (small : Bytes l) (q : load_of l keys t bs ≡ Ok (sizes_of e b n s)) where
  abbrev z : Sizes
  z = sizes_of e b n s

  got : Taken l z keys t bs
  got = taken l keys t bs z q

  abbrev v : Image
  v = image_at first l

  abbrev τ : Store
  τ = store_read l keys t bs z

  told_sizes : z ≡ head_sizes v
  told_sizes = told_head l z got.told

  v_good : Good first v
  v_good = read_good l small first first_proper got.told.last (told_well l z got.told)

  image_is : image_in τ ≡ v
  image_is =
      ap image_in (store_filled l keys t bs z told_sizes) ∙
      filled_image v keys t bs v_good (subst (λ (y : Sizes). Limits (store_of y keys t bs)) told_sizes got.limits)

  bytes_are : image_bytes first (image_in τ) ≡ l
  bytes_are = ap (image_bytes first) image_is ∙ written_read first first_proper l got.told.last small (told_well l z got.told)

  τ_good : Good first (image_in τ)
  τ_good = rw image_is v_good

  τ_limits : Limits τ
  τ_limits =
      let a : length τ.keys ≡ length keys = length_over keys 0 (firsts v.keys) in
      let c : length τ.table ≡ length t = length_over t 0 (rows_of v.parts) in
      let d : length τ.buffers ≡ length bs = slots_length b v.parts 0 bs in
      omega (arith, a, c, d, got.limits)

  long : bytes_of τ ≡ length l
  long = ap length bytes_are

  answered : (room : ℕ) → length l ≤ room → write_of τ room ≡ Ok (length l)
  answered room h =
      sym (write_only τ room (Ok (bytes_of τ)) (written τ_limits (good_entries τ τ_good) (good_run τ τ_good) (rw long h))) ∙ ap Ok long

  -- For every byte string that reading accepts: writing the store read gives the same bytes, store rules kept or not.
  pub read_write : Again τ l
  read_write = record { answer = answered; bytes = λ out h. ap (over out 0) bytes_are ∙ over_start out l h }

  -- ---- what reading does not touch

  keys_long : length (firsts v.keys) ≡ n
  keys_long = firsts_length v.keys ∙ sym v_good.keys_count ∙ ap (λ (y : Sizes). y.n) (sym told_sizes)

  table_long : length (rows_of v.parts) ≡ 5 * s
  table_long = rows_length (head_sizes v).b v.parts v_good.parts_good ∙ ap (λ (k : ℕ). 5 * k) (sym v_good.parts_count ∙ ap (λ (y : Sizes). y.s) (sym told_sizes))

  slots_apart : (p : ℕ) → ((i j : ℕ) → i < s → j < (entry_in τ i).held → p ≡ i * b + j → ⊥) → Apart b p 0 v.parts
  unfolding entry_of
  slots_apart p free =
      let parts : v.parts ≡ parts_in b τ.table τ.buffers 0 s = sym (ap (λ (x : Image). x.parts) image_is) ∙ parts_of τ in
      rw parts (apart_in b p τ.table τ.buffers 0 s (λ k a c j h e. free k j (omega arith) h e))

  -- Exactly the used cells are set: every other cell keeps its contents, and no slice changes its length.
  pub read_kept : Kept τ keys t bs
  read_kept =
      record {
        keys_kept = λ p h. over_after keys 0 (firsts v.keys) p (omega (arith, keys_long));
        table_kept = λ p h. over_after t 0 (rows_of v.parts) p (omega (arith, table_long));
        slots_kept = λ p free. slots_kept b p v.parts 0 bs (slots_apart p free);
        lengths = (length_over keys 0 (firsts v.keys), length_over t 0 (rows_of v.parts), slots_length b v.parts 0 bs);
      }
