-- Laws of the cells that a list of segments takes: joined, moved, raised.
-- Assumes nothing.
use mathlib.Core.Path.{◌≡◌, refl, sym, ap, ◌∙◌}
use mathlib.Core.List.{List, [], ◌∷◌, ◌++◌, append_assoc}
use Prim.Native.Nat.{ℕ, suc, ◌+◌, ◌-◌, ◌*◌, ◌≤◌, ◌<◌}
use native.Mathlib.Omega.{arith}
use lib.ListN.{length, take, drop, length-append, length-drop}
use lib.Seq.{drop-drop, drop_at, take_at, length-take-le}
use Rattle.lists.proofs.Lists.{take_front, drop_front}
use Rattle.theory_segments.specs.Seg.{Seg, runs_of, Bare}
use Rattle.theory_segments.specs.Cuts.{rows}
use Rattle.theory_shown.specs.Shows.{Slots}
use Rattle.insert_write.specs.Cells.{raised, held_of, laid}

-- ---- rows

pub rows_append : (at : ℕ) (xs ys : List Seg) → rows at (xs ++ ys) ≡ rows at xs ++ rows (at + length (runs_of xs)) ys
rows_append at [] ys = let e : at + 0 ≡ at = omega arith in rw e refl
rows_append at (x ∷ xs) ys =
    let e : at + length x.keys + length (runs_of xs) ≡ at + length (x.keys ++ runs_of xs) = omega (arith, length-append x.keys (runs_of xs)) in
    rw (rows_append (at + length x.keys) xs ys, e) refl

pub length_rows : (at : ℕ) (xs : List Seg) → length (rows at xs) ≡ 5 * length xs
length_rows at [] = refl
length_rows at (x ∷ xs) = omega (arith, length_rows (at + length x.keys) xs)

-- segments that have a key between them are some
pub some_segs : (xs : List Seg) (l : List ℕ) (m : ℕ) → runs_of xs ≡ l → length xs ≡ m → 0 < length l → 0 < m
some_segs [] l m w p h = absurd (omega (arith, ap length w))
some_segs (x ∷ xs) l m w p h = omega (arith, p)

-- later entries, raised
pub raised_rows : (at to add : ℕ) (xs : List Seg) (more : List ℕ) → to ≡ at + add → raised (length xs) add (rows at xs ++ more) ≡ rows to xs
unfolding raised
raised_rows at to add [] more e = refl
raised_rows at to add (x ∷ xs) more e =
    rw (raised_rows (at + length x.keys) (to + length x.keys) add xs more (omega arith), e) refl

-- ---- slots

pub slots_split : (b : ℕ) (xs ys : List Seg) (cells : List ℕ) → Slots b (xs ++ ys) cells → Slots b xs cells × Slots b ys (drop (length xs * b) cells)
slots_split b [] ys cells s = let e : 0 * b ≡ 0 = omega arith in (tt, rw e s)
slots_split b (x ∷ xs) ys cells s =
    let e : suc (length xs) * b ≡ b + length xs * b = omega arith in
    let r : Slots b xs (drop b cells) × Slots b ys (drop (length xs * b) (drop b cells)) = slots_split b xs ys (drop b cells) s.1 in
    ((s.0, r.0), rw (e, ← drop-drop (length xs * b) b cells) r.1)

pub slots_join : (b : ℕ) (xs ys : List Seg) (cells : List ℕ) → Slots b xs cells → Slots b ys (drop (length xs * b) cells) → Slots b (xs ++ ys) cells
slots_join b [] ys cells s t = let e : 0 * b ≡ 0 = omega arith in rw e at t
slots_join b (x ∷ xs) ys cells s t =
    let e : suc (length xs) * b ≡ b + length xs * b = omega arith in
    (s.0, slots_join b xs ys (drop b cells) s.1 (rw (e, ← drop-drop (length xs * b) b cells) at t))

-- each segment holds at most b keys
abbrev pub HeldBy : ℕ → List Seg → Type 0
HeldBy b [] = Unit
HeldBy b (x ∷ xs) = (length x.used ≤ b) × HeldBy b xs

-- the front of the cells is enough
pub slots_front : (b m : ℕ) (xs : List Seg) (cells r : List ℕ) → HeldBy b xs → length xs * b ≤ m → m ≤ length cells → Slots b xs cells → Slots b xs (take m cells ++ r)
slots_front b m [] cells r h a z s = tt
slots_front b m (x ∷ xs) cells r h a z s =
    let e : suc (length xs) * b ≡ b + length xs * b = omega arith in
    let n : b + length xs * b ≤ m = rw e at a in (
      take_front (length x.used) m cells r (omega (arith, h.0, n)) z ∙ s.0,
      rw (drop_front b m (m - b) cells r (omega (arith, n)) z) (slots_front b (m - b) xs (drop b cells) r h.1 (omega (arith, n)) (omega (arith, length-drop b cells)) s.1),
    )

pub bare_slots : (b : ℕ) (xs : List Seg) (cells : List ℕ) → Bare xs → Slots b xs cells
bare_slots b [] cells n = tt
bare_slots b (x ∷ xs) cells n = (rw n.0 refl, bare_slots b xs (drop b cells) n.1)

-- how many each holds
abbrev pub helds : List Seg → List ℕ
helds [] = []
helds (x ∷ xs) = length x.used ∷ helds xs

pub held_rows : (at : ℕ) (xs : List Seg) (more : List ℕ) → held_of (length xs) (rows at xs ++ more) ≡ helds xs
unfolding held_of
held_rows at [] more = refl
held_rows at (x ∷ xs) more = rw (held_rows (at + length x.keys) xs more) refl

-- used slots laid over other cells, one segment at a time
module _ (b h : ℕ) (from onto r : List ℕ) (l : length (take h from) ≡ h) (most : h ≤ b) (room : b ≤ length onto) where
  abbrev part : List ℕ
  part = take (b - h) (drop h onto)

  length_part : length part ≡ b - h
  length_part = length-take-le (b - h) (drop h onto) (omega (arith, length-drop h onto))

  pub length_lay : length (take h from ++ (part ++ r)) ≡ b + length r
  length_lay = omega (arith, length-append (take h from) (part ++ r), length-append part r, length_part)

  pub drop_lay : drop b (take h from ++ (part ++ r)) ≡ r
  drop_lay = sym (ap (drop b) (append_assoc (take h from) part r)) ∙ drop_at (take h from ++ part) r b (omega (arith, length-append (take h from) part, length_part))

pub laid_slots : (b : ℕ) (xs : List Seg) (from onto : List ℕ) → HeldBy b xs → length xs * b ≤ length onto → Slots b xs from → Slots b xs (laid b (helds xs) from onto)
unfolding laid
laid_slots b [] from onto h room s = tt
laid_slots b (x ∷ xs) from onto h room s =
    let c : ℕ = length x.used in
    let e : suc (length xs) * b ≡ b + length xs * b = omega arith in
    let n : b + length xs * b ≤ length onto = rw e at room in
    let r : List ℕ = laid b (helds xs) (drop b from) (drop b onto) in
    let l : length (take c from) ≡ c = ap length s.0 in (
      take_at (take c from) (take (b - c) (drop c onto) ++ r) c l ∙ s.0,
      rw (drop_lay b c from onto r l h.0 (omega (arith, n))) (laid_slots b xs (drop b from) (drop b onto) h.1 (omega (arith, n, length-drop b onto)) s.1),
    )

pub length_laid : (b : ℕ) (xs : List Seg) (from onto : List ℕ) → HeldBy b xs → length xs * b ≤ length onto → Slots b xs from → length (laid b (helds xs) from onto) ≡ length onto
unfolding laid
length_laid b [] from onto h room s = refl
length_laid b (x ∷ xs) from onto h room s =
    let c : ℕ = length x.used in
    let e : suc (length xs) * b ≡ b + length xs * b = omega arith in
    let n : b + length xs * b ≤ length onto = rw e at room in
    let r : List ℕ = laid b (helds xs) (drop b from) (drop b onto) in
    let l : length (take c from) ≡ c = ap length s.0 in
    omega (arith, length_lay b c from onto r l h.0 (omega (arith, n)), length_laid b xs (drop b from) (drop b onto) h.1 (omega (arith, n, length-drop b onto)) s.1, length-drop b onto)
