-- The cases of the writing functions.
-- Assumes nothing.
use mathlib.Core.Path.{◌≡◌, refl, sym, ap, ◌∙◌}
use mathlib.Core.List.{List, [], ◌∷◌, ◌++◌, append_assoc, append-nil}
use Prim.Native.Nat.{ℕ, zero, suc, ◌+◌, ◌-◌, ◌*◌, ◌≤◌, ◌<◌}
use native.Mathlib.Nat.{mul-le-mul, lt_of_le_of_lt}
use native.Mathlib.Omega.{arith}
use lib.Dec.{lit<}
use lib.ListN.{length, get_or, set, take, drop, length-append, length-drop}
use Rattle.std.proofs.lemmas.List.{get_or-take, get_or-drop, length-take-le}
use mir.Syntax.{w64}
use mir.Val.{Fits}
use Rattle.terms.specs.declared.Sizes.{Sizes}
use Rattle.terms.specs.Limits.{b_most, s_most}
use Rattle.image_little.specs.Little.{number_bytes}
use Rattle.image_little.proofs.Round.{number_length}
use Rattle.table.specs.Store.{Store, store_of}
use Rattle.image_records.specs.Records.{field_bytes, record_bytes, many_bytes}
use Rattle.image_records.specs.Images.{part_bytes, image_bytes}
use Rattle.image_records.specs.First.{first}
use Rattle.image_records.specs.declared.Fields.{Fields}
use Rattle.image_records.specs.Fields.{fields_of}
use Rattle.image_records.specs.Stores.{singles_in, row_in, parts_in, image_in}
use Rattle.lists.specs.Over.{over, Space, Writing}
use Rattle.lists.proofs.Over.{length_over, over_append, writing_start, writing_step, writing_end, writing_place}
use Rattle.image_put.specs.Pieces.{byte_bytes, pair_bytes, line_bytes, key_bytes, keys_bytes, head_bytes, segment_bytes, row_bytes, piece_bytes, pieces_bytes, end_bytes, rest_bytes, KeysRoom, PieceRoom, PiecesRoom, RestRoom, ImageRoom}

-- ---- lengths
pub key_length : (kind x : ℕ) → length (key_bytes kind x) ≡ 7
unfolding key_bytes record_bytes field_bytes
key_length kind x = simp (length-append, number_length)

pub head_length : (e b n s : ℕ) → length (head_bytes e b n s) ≡ 9
unfolding head_bytes record_bytes field_bytes
head_length e b n s = simp (length-append, number_length)

pub segment_length : (x base rise run held : ℕ) → length (segment_bytes x base rise run held) ≡ 18
unfolding segment_bytes record_bytes field_bytes
segment_length x base rise run held = simp (length-append, number_length)

pub end_length : length end_bytes ≡ 1
unfolding end_bytes record_bytes field_bytes
end_length = refl

-- ---- one record: a byte, then numbers
byte_written : (l : List ℕ) (at x : ℕ) → set l at x ≡ over l at (byte_bytes x)
unfolding over byte_bytes
byte_written l at x = refl

-- a piece after a piece
joined : (l₀ : List ℕ) (at : ℕ) (xs : List ℕ) {l l' : List ℕ} → l ≡ over l₀ at xs → (p : ℕ) (ys : List ℕ) → l' ≡ over l p ys → p ≡ at + length xs → l' ≡ over l₀ at (xs ++ ys)
joined l₀ at xs e p ys f g = f ∙ rw (e, g) (sym (over_append l₀ at xs ys))

module _ (l : List ℕ) (at kind x : ℕ) where
  pub key_place : at + 7 ≡ at + length (key_bytes kind x)
  key_place = rw (key_length kind x)

  pub key_written : {l₁ : List ℕ} → l₁ ≡ over (set l at kind) (at + 1) (number_bytes 6 x) → l₁ ≡ over l at (key_bytes kind x)
  unfolding byte_bytes key_bytes record_bytes field_bytes
  key_written f = simp append-nil (joined l at (kind ∷ []) (byte_written l at kind) (at + 1) (number_bytes 6 x) f refl)

pub ruleset key_cases = (key_place, key_written)

pair_length : (x y : ℕ) → length (pair_bytes x y) ≡ 4
unfolding pair_bytes
pair_length x y = simp (length-append, number_length)

line_length : (base rise run : ℕ) → length (line_bytes base rise run) ≡ 10
unfolding line_bytes
line_length base rise run = simp (length-append, number_length, pair_length)

pub pair_written : (l : List ℕ) (at x y : ℕ) {l₁ l₂ : List ℕ} → l₁ ≡ over l at (number_bytes 2 x) → l₂ ≡ over l₁ (at + 2) (number_bytes 2 y) → l₂ ≡ over l at (pair_bytes x y)
unfolding pair_bytes
pair_written l at x y e f = joined l at (number_bytes 2 x) e (at + 2) (number_bytes 2 y) f (simp number_length)

pub line_written : (l : List ℕ) (at base rise run : ℕ) {l₁ l₂ : List ℕ} → l₁ ≡ over l at (pair_bytes base rise) → l₂ ≡ over l₁ (at + 4) (number_bytes 6 run)
    → l₂ ≡ over l at (line_bytes base rise run)
unfolding line_bytes
line_written l at base rise run e f = joined l at (pair_bytes base rise) e (at + 4) (number_bytes 6 run) f (simp pair_length)

byte_length : (x : ℕ) → length (byte_bytes x) ≡ 1
unfolding byte_bytes
byte_length x = refl

head_is : (e b n s : ℕ) → (byte_bytes 1 ++ pair_bytes e b) ++ pair_bytes n s ≡ head_bytes e b n s
unfolding byte_bytes pair_bytes head_bytes record_bytes field_bytes
head_is e b n s = simp (append_assoc, append-nil)

module _ (l : List ℕ) (e b n s : ℕ) where
  pub head_place : 9 ≡ 0 + length (head_bytes e b n s)
  head_place = rw (head_length e b n s)

  pub head_written : {l₁ l₂ : List ℕ} → l₁ ≡ over (set l 0 1) 1 (pair_bytes e b)
      → l₂ ≡ over l₁ 5 (pair_bytes n s) → l₂ ≡ over l 0 (head_bytes e b n s)
  head_written f g =
      let h : _ = joined l 0 (byte_bytes 1) (byte_written l 0 1) 1 (pair_bytes e b) f (rw (byte_length 1)) in
      joined l 0 _ h 5 (pair_bytes n s) g (simp (length-append, byte_length, pair_length)) ∙ ap (over l 0) (head_is e b n s)

pub ruleset head_cases = (head_place, head_written)

five_fields : (a b c d h : List ℕ) → ((a ++ []) ++ ((b ++ c) ++ d)) ++ h ≡ a ++ (b ++ (c ++ (d ++ (h ++ []))))
five_fields a b c d h = simp (append_assoc, append-nil)

segment_is : (x base rise run held : ℕ) → (key_bytes 3 x ++ line_bytes base rise run) ++ number_bytes 1 held ≡ segment_bytes x base rise run held
unfolding key_bytes line_bytes pair_bytes segment_bytes record_bytes field_bytes
segment_is x base rise run held = ap (λ (l : List ℕ). 3 ∷ l) (five_fields (number_bytes 6 x) (number_bytes 2 base) (number_bytes 2 rise) (number_bytes 6 run) (number_bytes 1 held))

module _ (l : List ℕ) (at x base rise run held : ℕ) where
  pub segment_place : at + 18 ≡ at + length (segment_bytes x base rise run held)
  segment_place = rw (segment_length x base rise run held)

  pub segment_written : {l₁ l₂ l₃ : List ℕ} → l₁ ≡ over l at (key_bytes 3 x) → l₂ ≡ over l₁ (at + 7) (line_bytes base rise run) → l₃ ≡ over l₂ (at + 17) (number_bytes 1 held)
      → l₃ ≡ over l at (segment_bytes x base rise run held)
  segment_written f₁ f₂ f₃ =
      let g₂ : _ = joined l at (key_bytes 3 x) f₁ (at + 7) (line_bytes base rise run) f₂ (rw (key_length 3 x)) in
      joined l at _ g₂ (at + 17) (number_bytes 1 held) f₃ (simp (length-append, key_length, line_length)) ∙ ap (over l at) (segment_is x base rise run held)

pub ruleset segment_cases = (segment_place, segment_written)

module _ (l : List ℕ) (at : ℕ) where
  pub end_place : at + 1 ≡ at + length end_bytes
  end_place = rw end_length

  pub end_written : set l at 9 ≡ over l at end_bytes
  unfolding byte_bytes end_bytes record_bytes field_bytes
  end_written = byte_written l at 9

pub ruleset end_cases = (end_place, end_written)

-- ---- a row of keys
pub keys_none : (kind : ℕ) (cells : List ℕ) (from : ℕ) → keys_bytes kind cells from 0 ≡ []
unfolding keys_bytes many_bytes singles_in
keys_none kind cells from = refl

pub keys_more : (kind : ℕ) (cells : List ℕ) (from count : ℕ) → keys_bytes kind cells from (suc count) ≡ key_bytes kind (get_or cells from 0) ++ keys_bytes kind cells (from + 1) count
unfolding keys_bytes many_bytes singles_in key_bytes
keys_more kind cells from count = refl

pub keys_length : (kind : ℕ) (cells : List ℕ) (from count : ℕ) → length (keys_bytes kind cells from count) ≡ 7 * count
keys_length kind cells from zero = ap length (keys_none kind cells from)
keys_length kind cells from (suc count) =
    ap length (keys_more kind cells from count) ∙ length-append (key_bytes kind (get_or cells from 0)) (keys_bytes kind cells (from + 1) count) ∙
    omega (arith, key_length kind (get_or cells from 0), keys_length kind cells (from + 1) count)

-- a part of the cells, as a row of its own
abbrev pub part : List ℕ → ℕ → ℕ → List ℕ
part cells from count = take ((from + count) - from) (drop from cells)

module _ (kind : ℕ) (cells : List ℕ) (from count : ℕ) (r : from + count ≤ length cells) where
  abbrev these : List ℕ
  these = part cells from count

  part_keys : (j m : ℕ) → j + m ≤ count → keys_bytes kind these j m ≡ keys_bytes kind cells (from + j) m
  part_keys j zero h = keys_none kind these j ∙ sym (keys_none kind cells (from + j))
  part_keys j (suc m) h =
      let k : j < (from + count) - from = omega arith in
      let item : get_or these j 0 ≡ get_or cells (from + j) 0 = get_or-take ((from + count) - from) (drop from cells) j 0 k ∙ get_or-drop from cells j 0 in
      let shift : from + (j + 1) ≡ (from + j) + 1 = omega arith in
      let more : keys_bytes kind these (j + 1) m ≡ keys_bytes kind cells ((from + j) + 1) m =
      part_keys (j + 1) m (omega arith) ∙ ap (λ (i : ℕ). keys_bytes kind cells i m) shift in
      keys_more kind these j m ∙ rw (item, more) refl ∙ sym (keys_more kind cells (from + j) m)

  part_long : length these ≡ count
  part_long = length-take-le ((from + count) - from) (drop from cells) (omega (arith, r, length-drop from cells)) ∙ omega arith

  pub part_is : keys_bytes kind these 0 (length these) ≡ keys_bytes kind cells from count
  part_is =
      let e : from + 0 ≡ from = omega arith in
      ap (keys_bytes kind these 0) part_long ∙ part_keys 0 count (omega arith) ∙ rw e refl

module _ (l₀ : List ℕ) (at kind : ℕ) (cells : List ℕ) where
  abbrev all_keys : List ℕ
  all_keys = keys_bytes kind cells 0 (length cells)

  -- those after the first j are still to be written
  abbrev pub KeysFrom : List ℕ → ℕ → ℕ → Type 0
  KeysFrom l p j = Writing l₀ at all_keys l p (keys_bytes kind cells j (length cells - j))

  pub keys_start : KeysRoom l₀ at kind cells → KeysFrom l₀ at 0
  keys_start r = let e : length cells - 0 ≡ length cells = omega arith in rw e (writing_start l₀ at all_keys r.space)

  module _ (l : List ℕ) (p j : ℕ) (w : KeysFrom l p j) where
    module _ (g : j < length cells) where
      abbrev others : List ℕ
      others = keys_bytes kind cells (j + 1) (length cells - (j + 1))

      next : keys_bytes kind cells j (length cells - j) ≡ key_bytes kind (get_or cells j 0) ++ others
      next = let e : length cells - j ≡ suc (length cells - (j + 1)) = omega arith in ap (keys_bytes kind cells j) e ∙ keys_more kind cells j (length cells - (j + 1))

      pub keys_space : Space l p 7
      keys_space =
          let f : length (keys_bytes kind cells j (length cells - j)) ≡ 7 + length others =
          ap length next ∙ length-append (key_bytes kind (get_or cells j 0)) others ∙ rw (key_length kind (get_or cells j 0)) in
          record { inside = omega (arith, w.room, w.same) }

      pub keys_turn : {l' : List ℕ} {q : ℕ} → l' ≡ over l p (key_bytes kind (get_or cells j 0)) → q ≡ p + length (key_bytes kind (get_or cells j 0)) → KeysFrom l' q (j + 1)
      keys_turn {l'} {q} f g = writing_step l₀ at all_keys l p (key_bytes kind (get_or cells j 0)) others (rw next at w) l' f q g

    module _ (h : length cells ≤ j) where
      done : Writing l₀ at all_keys l p []
      done = let e : length cells - j ≡ 0 = omega arith in rw (keys_none kind cells j) at (rw e at w)

      pub keys_end : l ≡ over l₀ at all_keys
      keys_end = writing_end l₀ at all_keys l p done

      pub keys_place : p ≡ at + length all_keys
      keys_place = writing_place l₀ at all_keys l p done

pub ruleset keys_cases = (keys_start, keys_space, keys_turn, keys_end, keys_place)

-- ---- a segment and its buffered keys
pub slots_fit : (i b : ℕ) → i < s_most → b ≤ b_most → Fits w64 (i * b)
slots_fit i b h g = let k : i ≤ s_most = omega arith in record { fits = lt_of_le_of_lt (mul-le-mul k g) (lit< tt) }

row_length : (t : List ℕ) (i : ℕ) → length (row_bytes t i) ≡ 18
unfolding row_bytes record_bytes field_bytes
row_length t i = simp (length-append, number_length)

module _ (l : List ℕ) (at b : ℕ) (t buffers : List ℕ) (i : ℕ) where
  piece_is : piece_bytes b t buffers i ≡ row_bytes t i ++ keys_bytes 4 buffers (i * b) (get_or t (5 * i + 4) 0)
  unfolding piece_bytes
  piece_is = refl

  pub piece_length : length (piece_bytes b t buffers i) ≡ 18 + length (keys_bytes 4 buffers (i * b) (get_or t (5 * i + 4) 0))
  piece_length = ap length piece_is ∙ length-append (row_bytes t i) (keys_bytes 4 buffers (i * b) (get_or t (5 * i + 4) 0)) ∙ rw (row_length t i)

  pub segment_asks : PieceRoom l at b t buffers i → Space l at 18
  segment_asks r = record { inside = omega (arith, piece_length, r.space) }

  module _ (f : Fields) (fe : fields_of f ≡ row_in t i) where
    row_is : segment_bytes f.first f.base f.rise f.run f.held ≡ row_bytes t i
    unfolding row_bytes segment_bytes
    row_is = ap (record_bytes first.segment) fe

    held_is : f.held ≡ get_or t (5 * i + 4) 0
    held_is = ap (λ (xs : List ℕ). get_or xs 4 0) fe

    module _ {l₁ : List ℕ} (w : l₁ ≡ over l at (segment_bytes f.first f.base f.rise f.run f.held)) {p : ℕ}
        (pe : p ≡ at + length (segment_bytes f.first f.base f.rise f.run f.held)) {h : ℕ} (he : h ≡ f.held) where
      row_written : l₁ ≡ over l at (row_bytes t i)
      row_written = w ∙ rw row_is refl

      row_place : p ≡ at + length (row_bytes t i)
      row_place = pe ∙ rw row_is refl

      held : h ≡ get_or t (5 * i + 4) 0
      held = he ∙ held_is

      module _ (r : PieceRoom l at b t buffers i) where
        pub slots_asks : i * b + h ≤ length buffers
        slots_asks = omega (arith, held, r.slots)

        abbrev slots : List ℕ
        slots = part buffers (i * b) h

        keys_are : keys_bytes 4 slots 0 (length slots) ≡ keys_bytes 4 buffers (i * b) (get_or t (5 * i + 4) 0)
        keys_are = part_is 4 buffers (i * b) h slots_asks ∙ ap (keys_bytes 4 buffers (i * b)) held

        pub keys_asks : KeysRoom l₁ p 4 slots
        keys_asks =
            let n : length l₁ ≡ length l = ap length w ∙ length_over l at (segment_bytes f.first f.base f.rise f.run f.held) in
            record { space = omega (arith, piece_length, row_length t i, row_place, r.space, ap length keys_are) }

        pub piece_place : {q : ℕ} → q ≡ p + length (keys_bytes 4 slots 0 (length slots)) → q ≡ at + length (piece_bytes b t buffers i)
        piece_place {q} g = omega (arith, g, piece_length, row_length t i, row_place, ap length keys_are)

        pub piece_written : {l₂ : List ℕ} → l₂ ≡ over l₁ p (keys_bytes 4 slots 0 (length slots)) → l₂ ≡ over l at (piece_bytes b t buffers i)
        piece_written g =
            rw piece_is (joined l at (row_bytes t i) row_written p (keys_bytes 4 buffers (i * b) (get_or t (5 * i + 4) 0)) (g ∙ ap (over l₁ p) keys_are) row_place)

pub ruleset piece_cases = (slots_fit, segment_asks, slots_asks, keys_asks, piece_place, piece_written)

-- ---- all the segments
pub pieces_none : (b : ℕ) (t buffers : List ℕ) (i : ℕ) → pieces_bytes b t buffers i 0 ≡ []
unfolding pieces_bytes part_bytes parts_in
pieces_none b t buffers i = refl

pub pieces_more : (b : ℕ) (t buffers : List ℕ) (i count : ℕ) → pieces_bytes b t buffers i (suc count) ≡ piece_bytes b t buffers i ++ pieces_bytes b t buffers (i + 1) count
unfolding pieces_bytes part_bytes parts_in piece_bytes row_bytes keys_bytes
pieces_more b t buffers i count =
    sym (append_assoc (record_bytes first.segment (row_in t i)) (many_bytes first.buffered (singles_in buffers (i * b) (get_or t (5 * i + 4) 0))) (part_bytes first (parts_in b t buffers (i + 1) count)))

module _ (l₀ : List ℕ) (at b : ℕ) (t buffers : List ℕ) (s : ℕ) where
  abbrev all_pieces : List ℕ
  all_pieces = pieces_bytes b t buffers 0 s

  -- those of the segments from i on are still to be written
  abbrev pub PiecesFrom : List ℕ → ℕ → ℕ → Type 0
  PiecesFrom l p i = Writing l₀ at all_pieces l p (pieces_bytes b t buffers i (s - i))

  pub pieces_start : PiecesRoom l₀ at b t buffers s → PiecesFrom l₀ at 0
  pieces_start r = let e : s - 0 ≡ s = omega arith in rw e (writing_start l₀ at all_pieces r.space)

  module _ (l : List ℕ) (p i : ℕ) (w : PiecesFrom l p i) where
    module _ (h : i < s) where
      more : pieces_bytes b t buffers i (s - i) ≡ piece_bytes b t buffers i ++ pieces_bytes b t buffers (i + 1) (s - (i + 1))
      more = let e : s - i ≡ suc (s - (i + 1)) = omega arith in ap (pieces_bytes b t buffers i) e ∙ pieces_more b t buffers i (s - (i + 1))

      pub piece_asks : PiecesRoom l₀ at b t buffers s → PieceRoom l p b t buffers i
      piece_asks r =
          let f : length (pieces_bytes b t buffers i (s - i)) ≡ length (piece_bytes b t buffers i) + length (pieces_bytes b t buffers (i + 1) (s - (i + 1))) =
          ap length more ∙ length-append (piece_bytes b t buffers i) (pieces_bytes b t buffers (i + 1) (s - (i + 1))) in
          record {
            space = omega (arith, w.room, w.same);
            row = omega (arith, r.rows);
            few = omega (arith, r.few);
            small = r.small;
            slots = r.slots i h;
          }

      pub pieces_turn : {l' : List ℕ} {q : ℕ} → l' ≡ over l p (piece_bytes b t buffers i) → q ≡ p + length (piece_bytes b t buffers i) → PiecesFrom l' q (i + 1)
      pieces_turn {l'} {q} f g =
          writing_step l₀ at all_pieces l p (piece_bytes b t buffers i) (pieces_bytes b t buffers (i + 1) (s - (i + 1))) (rw more at w) l' f q g

    module _ (h : s ≤ i) where
      all_done : Writing l₀ at all_pieces l p []
      all_done = let e : s - i ≡ 0 = omega arith in rw (pieces_none b t buffers i) at (rw e at w)

      pub pieces_end : l ≡ over l₀ at all_pieces
      pieces_end = writing_end l₀ at all_pieces l p all_done

      pub pieces_place : p ≡ at + length all_pieces
      pieces_place = writing_place l₀ at all_pieces l p all_done

pub ruleset pieces_cases = (pieces_start, piece_asks, pieces_turn, pieces_end, pieces_place)

-- ---- the segments, then the end
rest_is : (b : ℕ) (t buffers : List ℕ) (s : ℕ) → rest_bytes b t buffers s ≡ pieces_bytes b t buffers 0 s ++ end_bytes
unfolding rest_bytes
rest_is b t buffers s = refl

pub rest_length : (b : ℕ) (t buffers : List ℕ) (s : ℕ) → length (rest_bytes b t buffers s) ≡ length (pieces_bytes b t buffers 0 s) + 1
rest_length b t buffers s = ap length (rest_is b t buffers s) ∙ length-append (pieces_bytes b t buffers 0 s) end_bytes ∙ rw end_length

module _ (l : List ℕ) (at b : ℕ) (t buffers : List ℕ) (s : ℕ) {l₁ : List ℕ} (e : l₁ ≡ over l at (pieces_bytes b t buffers 0 s)) {p : ℕ}
    (f : p ≡ at + length (pieces_bytes b t buffers 0 s)) where
  pub end_asks : RestRoom l at b t buffers s → Space l₁ p 1
  end_asks r = let n : length l₁ ≡ length l = ap length e ∙ length_over l at (pieces_bytes b t buffers 0 s) in record { inside = omega (arith, r.end) }

  pub rest_place : {q : ℕ} → q ≡ p + length end_bytes → q ≡ at + length (rest_bytes b t buffers s)
  rest_place g = omega (arith, f, end_length, rest_length b t buffers s)

  pub rest_written : {l₂ : List ℕ} → l₂ ≡ over l₁ p end_bytes → l₂ ≡ over l at (rest_bytes b t buffers s)
  rest_written g = rw (rest_is b t buffers s) (joined l at (pieces_bytes b t buffers 0 s) e p end_bytes g f)

pub ruleset rest_cases = (end_asks, rest_place, rest_written)

-- ---- the whole image
image_is : (σ : Store) → image_bytes first (image_in σ) ≡ head_bytes σ.e σ.b σ.n σ.s ++ (keys_bytes 2 σ.keys 0 σ.n ++ rest_bytes σ.b σ.table σ.buffers σ.s)
unfolding image_bytes image_in head_bytes keys_bytes pieces_bytes end_bytes rest_bytes
image_is σ = refl

pub image_length : (σ : Store) → length (image_bytes first (image_in σ)) ≡ 9 + (7 * σ.n + length (rest_bytes σ.b σ.table σ.buffers σ.s))
image_length σ =
    let run : List ℕ = keys_bytes 2 σ.keys 0 σ.n in
    let rest : List ℕ = rest_bytes σ.b σ.table σ.buffers σ.s in
    ap length (image_is σ) ∙ length-append (head_bytes σ.e σ.b σ.n σ.s) (run ++ rest) ∙
    omega (arith, head_length σ.e σ.b σ.n σ.s, length-append run rest, keys_length 2 σ.keys 0 σ.n)

module _ (l : List ℕ) (z : Sizes) (keys table buffers : List ℕ) where
  abbrev head : List ℕ
  head = head_bytes z.e z.b z.n z.s

  abbrev run : List ℕ
  run = keys_bytes 2 keys 0 z.n

  abbrev σ : Store
  σ = store_of z keys table buffers

  module _ (r : ImageRoom l σ) where
    pub head_asks : Space l 0 9
    head_asks = record { inside = omega (arith, image_length σ, r.space) }

    pub front_asks : z.n ≤ length keys
    front_asks = omega (arith, r.limits.keys_hold)

    -- its n keys, as a row of their own
    abbrev front : List ℕ
    front = take z.n keys

    abbrev shown : List ℕ
    shown = keys_bytes 2 front 0 (length front)

    shown_is : shown ≡ run
    shown_is = let e : (0 + z.n) - 0 ≡ z.n = omega arith in rw e at (part_is 2 keys 0 z.n (omega (arith, r.limits.keys_hold)))

    module _ {l₁ : List ℕ} (w₁ : l₁ ≡ over l 0 head) {p₁ : ℕ} (q₁ : p₁ ≡ 0 + length head) where
      pub run_asks : KeysRoom l₁ p₁ 2 front
      run_asks =
          let n : length l₁ ≡ length l = ap length w₁ ∙ length_over l 0 head in
          record { space = omega (arith, image_length σ, r.space, head_length z.e z.b z.n z.s, keys_length 2 keys 0 z.n, ap length shown_is) }

      module _ {p₂ : ℕ} (q₂ : p₂ ≡ p₁ + length shown) {l₂ : List ℕ} (w₂ : l₂ ≡ over l₁ p₁ shown) where
        pub rest_asks : RestRoom l₂ p₂ z.b table buffers z.s
        rest_asks =
            let n : length l₂ ≡ length l = ap length w₂ ∙ length_over l₁ p₁ shown ∙ ap length w₁ ∙ length_over l 0 head in
            let end : p₂ + length (pieces_bytes z.b table buffers 0 z.s) + 1 ≤ length l₂ =
            omega (arith, image_length σ, r.space, head_length z.e z.b z.n z.s, keys_length 2 keys 0 z.n, rest_length z.b table buffers z.s, ap length shown_is) in
            record {
              pieces = record { space = omega arith; rows = r.limits.table_holds; few = r.limits.s_limit; small = r.limits.b_limit; slots = r.slots };
              end = end;
            }

        -- what stands there then
        abbrev back : List ℕ
        back = rest_bytes z.b table buffers z.s

        pub image_place : {p₃ : ℕ} → p₃ ≡ p₂ + length back → p₃ ≡ length (image_bytes first (image_in σ))
        image_place q₃ = omega (arith, q₁, q₂, image_length σ, head_length z.e z.b z.n z.s, keys_length 2 keys 0 z.n, ap length shown_is)

        pub image_written : {l₃ : List ℕ} → l₃ ≡ over l₂ p₂ back → l₃ ≡ over l 0 (image_bytes first (image_in σ))
        image_written {l₃} w₃ =
            let e : l₃ ≡ over l₁ p₁ (run ++ back) = joined l₁ p₁ run (w₂ ∙ ap (over l₁ p₁) shown_is) p₂ back w₃ (q₂ ∙ rw shown_is refl) in
            joined l 0 head w₁ p₁ (run ++ back) e q₁ ∙ ap (over l 0) (sym (image_is σ))

pub ruleset image_cases = (head_asks, front_asks, run_asks, rest_asks, image_place, image_written)
