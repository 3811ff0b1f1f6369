-- The cases of writing an image.
-- Assumes nothing.
use Rattle.std.specs.Prelude.{Option, Some, None, Ok, Err}
use mathlib.Core.Path.{◌≡◌, refl, sym, ap, ◌∙◌}
use mathlib.Core.List.{List, []}
use Prim.Native.Nat.{ℕ, zero, suc, ◌+◌, ◌-◌, ◌*◌, ◌≤◌, ◌<◌}
use native.Mathlib.Nat.{mul-le-mul_right, add-mul, one-mul}
use native.Mathlib.Omega.{arith}
use lib.Dec.{leb}
use lib.ListN.{length, get_or, length-append}
use mir.Syntax.{w64}
use mir.Val.{Fits}
use borrow.Author.Tests.{le-leb, lt-leb, leb-true}
use Rattle.terms.specs.Limits.{b_most}
use Rattle.terms.specs.declared.Refusal.{Refusal}
use Rattle.terms.specs.declared.Refusal.TheVariants.{Limits as OutOfLimits, StoreWrong, OutRoom}
use Rattle.lists.specs.Over.{over}
use Rattle.lists.proofs.Tests.{either}
use Rattle.table.specs.Store.{Store}
use Rattle.table.specs.Limits.{limited_of, within_of, Limits}
use Rattle.table.proofs.Limits.{limits_of, within_true, within_false, within_refusal, within_limits}
use Rattle.image_records.specs.Images.{image_bytes}
use Rattle.image_records.specs.First.{first}
use Rattle.image_records.specs.Stores.{image_in}
use Rattle.image_put.specs.Pieces.{piece_bytes, pieces_bytes, ImageRoom}
use Rattle.image_put.proofs.Laws.{keys_length, piece_length, pieces_none, pieces_more, rest_length, image_length}
use Rattle.image_fits.specs.Fits.{wrong_of}
use Rattle.image_fits.proofs.Laws.{Right, right_of, entry_held}
use Rattle.image_write.specs.Writing.{length_of, fitted_of, judged_of, write_of, out_by}
use Rattle.image_write.specs.Asks.{parts_size, Sizable, Sizing}

-- ---- image_size

parts_none : (t : List ℕ) (i : ℕ) → parts_size t i 0 ≡ 0
unfolding parts_size
parts_none t i = refl

parts_more : (t : List ℕ) (s i : ℕ) → i < s → parts_size t i (s - i) ≡ 18 + 7 * get_or t (5 * i + 4) 0 + parts_size t (i + 1) (s - (i + 1))
unfolding parts_size
parts_more t s i h = let e : s - i ≡ suc (s - (i + 1)) = omega arith in ap (parts_size t i) e

module _ (b n s : ℕ) (t : List ℕ) (r : Sizable b n s t) where
  pub size_start : Sizing s t (10 + 7 * n) (10 + 7 * n) 0
  size_start = let e : s - 0 ≡ s = omega arith in record { is = rw e; bounded = omega arith }

  module _ (p i : ℕ) (w : Sizing s t (10 + 7 * n) p i) (h : i < s) where
    few : get_or t (5 * i + 4) 0 < b_most
    few = let f : get_or t (5 * i + 4) 0 < b = r.held i h in omega (arith, r.small)

    module _ {g : ℕ} (held : g ≡ get_or t (5 * i + 4) 0) where
      pub size_product : Fits w64 (7 * g)
      size_product = record { fits = omega (arith, few) }

      pub size_sum : Fits w64 (18 + 7 * g)
      size_sum = record { fits = omega (arith, few) }

      pub size_more : Fits w64 (p + (18 + 7 * g))
      size_more = record { fits = omega (arith, few, w.bounded, r.few, r.n_limit) }

      pub size_turn : Sizing s t (10 + 7 * n) (p + (18 + 7 * g)) (i + 1)
      size_turn = record { is = omega (arith, w.is, parts_more t s i h); bounded = omega (arith, few, w.bounded) }

pub size_read : (b n s : ℕ) (t : List ℕ) (i : ℕ) → Sizable b n s t → i < s → 5 * i + 4 < length t
size_read b n s t i r h = omega (arith, r.rows)

pub size_end : (s : ℕ) (t : List ℕ) (from p i : ℕ) → Sizing s t from p i → s ≤ i → p ≡ from + parts_size t 0 s
size_end s t from p i w h =
    let e : s - i ≡ 0 = omega arith in
    let z : parts_size t i (s - i) ≡ 0 = ap (parts_size t i) e ∙ parts_none t i in
    omega (arith, w.is)

pub ruleset size_cases = (size_start, size_read, size_product, size_sum, size_more, size_turn, size_end)

-- ---- the length of the image

pieces_length : (b : ℕ) (t bs : List ℕ) (i count : ℕ) → length (pieces_bytes b t bs i count) ≡ parts_size t i count
unfolding parts_size
pieces_length b t bs i zero = ap length (pieces_none b t bs i)
pieces_length b t bs i (suc count) =
    let k : _ = keys_length 4 bs (i * b) (get_or t (5 * i + 4) 0) in
    ap length (pieces_more b t bs i count) ∙ length-append (piece_bytes b t bs i) (pieces_bytes b t bs (i + 1) count) ∙
    omega (arith, piece_length [] 0 b t bs i, k, pieces_length b t bs (i + 1) count)

pub length_is : (σ : Store) → length_of σ ≡ 10 + 7 * σ.n + parts_size σ.table 0 σ.s
unfolding length_of
length_is σ = image_length σ ∙ omega (arith, rest_length σ.b σ.table σ.buffers σ.s, pieces_length σ.b σ.table σ.buffers 0 σ.s)

-- ---- decide

module _ (σ : Store) (room : ℕ) where
  pub limits_refused : {r : Refusal} → Err r ≡ within_of σ → Err r ≡ write_of σ room
  unfolding write_of
  limits_refused h = simp (within_false σ h) (ap Err (within_refusal σ h))

  module _ (within : Ok tt ≡ within_of σ) where
    pub wrong_asks : Limits σ
    wrong_asks = within_limits σ within

    module _ {w : Option ℕ} (found : w ≡ wrong_of σ.b σ.n σ.s σ.keys σ.table σ.buffers) where
      pub wrong_refused : {i : ℕ} → w ≡ Some i → Err (StoreWrong i) ≡ write_of σ room
      unfolding write_of
      wrong_refused q = simp (within_true σ within, sym found ∙ q)

      module _ (q : w ≡ None) where
        pub size_asks : Sizable σ.b σ.n σ.s σ.table
        size_asks =
            record {
              few = wrong_asks.s_limit;
              rows = wrong_asks.table_holds;
              small = wrong_asks.b_limit;
              n_limit = wrong_asks.n_limit;
              held = λ j h. entry_held σ.b σ.table σ.buffers j ((right_of σ.b σ.n σ.s σ.keys σ.table σ.buffers (sym found ∙ q)).entries j h);
            }

        module _ {z : ℕ} (sized : z ≡ 10 + 7 * σ.n + parts_size σ.table 0 σ.s) where
          is_length : length_of σ ≡ z
          is_length = length_is σ ∙ sym sized

          pub long_refused : room < z → Err OutRoom ≡ write_of σ room
          unfolding write_of fitted_of
          long_refused h = simp (within_true σ within, sym found ∙ q, is_length, lt-leb z room h)

          pub length_answered : z ≤ room → Ok z ≡ write_of σ room
          unfolding write_of fitted_of
          length_answered h = simp (within_true σ within, sym found ∙ q, is_length, le-leb z room h)

pub ruleset decide_cases = (wrong_asks, wrong_refused, size_asks, long_refused, length_answered)

-- ---- write_image

pub not_both : {C : Type 0} (r : Refusal) (z : ℕ) → Err r ≡ Ok z → C
not_both r z q = absurd (let z : ◌≡◌ {A = ℕ} 0 1 = cc in omega arith)

-- what an answer with a length tells
pub record Told (σ : Store) (room z : ℕ) : Type 0 where
  pub limits : Limits σ
  pub right : Right σ.b σ.n σ.s σ.keys σ.table σ.buffers
  pub is : z ≡ length_of σ
  pub space : length_of σ ≤ room

module _ (σ : Store) (room : ℕ) where
  fitted_told : (z : ℕ) → Limits σ → Right σ.b σ.n σ.s σ.keys σ.table σ.buffers → fitted_of (length_of σ) room ≡ Ok z → Told σ room z
  unfolding fitted_of
  fitted_told z l r q =
      either (leb (length_of σ) room)
      (λ t.
      let p : Ok (length_of σ) ≡ Ok z = simp t at q in
      let e : length_of σ ≡ z = cc in
      record { limits = l; right = r; is = sym e; space = leb-true (length_of σ) room t })
      (λ t. not_both OutRoom z (simp t at q))

  judged_told : (w : Option ℕ) (z : ℕ) → wrong_of σ.b σ.n σ.s σ.keys σ.table σ.buffers ≡ w → Limits σ → judged_of w (length_of σ) room ≡ Ok z → Told σ room z
  judged_told (Some i) z e l q = not_both (StoreWrong i) z q
  judged_told None z e l q = fitted_told z l (right_of σ.b σ.n σ.s σ.keys σ.table σ.buffers e) q

  pub written_told : (z : ℕ) → write_of σ room ≡ Ok z → Told σ room z
  unfolding write_of
  written_told z q =
      either (limited_of σ)
      (λ t. judged_told (wrong_of σ.b σ.n σ.s σ.keys σ.table σ.buffers) z refl (limits_of σ refl t) (simp t at q))
      (λ t. not_both OutOfLimits z (simp t at q))

image_long : (σ : Store) → length_of σ ≡ length (image_bytes first (image_in σ))
unfolding length_of
image_long σ = refl

module _ (σ : Store) (out : List ℕ) {z : ℕ} (answer : Ok z ≡ write_of σ (length out)) where
  pub put_asks : ImageRoom out σ
  put_asks =
      let w : Told σ (length out) z = written_told σ (length out) z (sym answer) in
      record {
        space = omega (arith, image_long σ, w.space);
        limits = w.limits;
        slots = λ j h.
            let f : get_or σ.table (5 * j + 4) 0 < σ.b = entry_held σ.b σ.table σ.buffers j (w.right.entries j h) in
            let m : (j + 1) * σ.b ≤ σ.s * σ.b = mul-le-mul_right σ.b (omega arith) in
            let k : (j + 1) * σ.b ≡ j * σ.b + σ.b = add-mul j 1 σ.b ∙ rw one-mul in
            omega (arith, w.limits.buffers_hold);
      }

pub out_written : (σ : Store) (out : List ℕ) {l : List ℕ} (z : ℕ) → l ≡ over out 0 (image_bytes first (image_in σ)) → l ≡ out_by (Ok z) σ out
out_written σ out z g = g

pub ruleset write_cases = (put_asks, out_written)
