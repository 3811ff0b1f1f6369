-- Stores with the same image are the same store; and the same store has the same entries, runs, used slots and reads.
-- Assumes nothing.
use mathlib.Core.Path.{◌≡◌, refl, sym, ap, ◌∙◌}
use mathlib.Core.List.{List, []}
use Prim.Native.Nat.{ℕ, zero, suc, ◌+◌, ◌-◌, ◌*◌, ◌/◌, ◌%◌, ◌≤◌, ◌<◌}
use native.Mathlib.Nat.{add-zero, zero-add, not-suc-le-zero, mul-le-mul_right, add-mul, one-mul}
use native.Mathlib.Omega.{arith}
use lib.Dec.{ltb}
use lib.ListN.{length, get_or}
use borrow.Author.Tests.{ltb-true}
use Rattle.lists.proofs.Tests.{either}
use Rattle.lists.proofs.Lists.{part_same}
use Rattle.table.specs.Store.{Store}
use Rattle.table.specs.Limits.{Limits}
use Rattle.table.specs.Entries.{entry_of, end_of, entry_in, run_in, used_in}
use Rattle.table.specs.Damaged.{Sound}
use Rattle.table.specs.Reads.{merged_in}
use Rattle.image_records.specs.Images.{Part, Image}
use Rattle.image_records.specs.Stores.{singles_in, row_in, part_in, parts_in, image_in, firsts}
use Rattle.image_laws.specs.Same.{Same}

-- ---- cells of an image's records

pub single_cell : (cells : List ℕ) (from count j : ℕ) → j < count → get_or (firsts (singles_in cells from count)) j 0 ≡ get_or cells (from + j) 0
unfolding firsts singles_in
single_cell cells from zero j h = absurd (not-suc-le-zero h)
single_cell cells from (suc count) zero h = rw add-zero
single_cell cells from (suc count) (suc j) h = let e : from + 1 + j ≡ from + suc j = omega arith in single_cell cells (from + 1) count j (omega arith) ∙ ap (λ (k : ℕ). get_or cells k 0) e

row_cell : (t : List ℕ) (i m : ℕ) → m < 5 → get_or (row_in t i) m 0 ≡ get_or t (5 * i + m) 0
row_cell t i zero h = rw add-zero
row_cell t i (suc zero) h = refl
row_cell t i (suc (suc zero)) h = refl
row_cell t i (suc (suc (suc zero))) h = refl
row_cell t i (suc (suc (suc (suc zero)))) h = refl
row_cell t i (suc (suc (suc (suc (suc m))))) h = absurd (omega arith)

abbrev none : Part
none = record { numbers = []; held = [] }

pub part_is : (b : ℕ) (t bs : List ℕ) (i count j : ℕ) → j < count → get_or (parts_in b t bs i count) j none ≡ part_in b t bs (i + j)
unfolding parts_in
part_is b t bs i zero j h = absurd (not-suc-le-zero h)
part_is b t bs i (suc count) zero h = rw add-zero
part_is b t bs i (suc count) (suc j) h = let e : i + 1 + j ≡ i + suc j = omega arith in part_is b t bs (i + 1) count j (omega arith) ∙ ap (part_in b t bs) e

-- ---- stores with the same image

module _ (σ τ : Store) (e : image_in σ ≡ image_in τ) where
  head_same : (k : ℕ) → get_or (image_in σ).head k 0 ≡ get_or (image_in τ).head k 0
  head_same k = ap (λ (v : Image). get_or v.head k 0) e

  module _ (qb : σ.b ≡ τ.b) (qn : σ.n ≡ τ.n) (qs : σ.s ≡ τ.s) where
    key_same : (p : ℕ) → p < σ.n → get_or σ.keys p 0 ≡ get_or τ.keys p 0
    unfolding image_in
    key_same p h =
        let a : get_or σ.keys (0 + p) 0 ≡ get_or τ.keys (0 + p) 0 =
        sym (single_cell σ.keys 0 σ.n p h) ∙ ap (λ (v : Image). get_or (firsts v.keys) p 0) e ∙ single_cell τ.keys 0 τ.n p (rw qn at h) in
        rw zero-add at a

    parts_same : (i : ℕ) → i < σ.s → part_in σ.b σ.table σ.buffers (0 + i) ≡ part_in τ.b τ.table τ.buffers (0 + i)
    unfolding image_in
    parts_same i h =
        sym (part_is σ.b σ.table σ.buffers 0 σ.s i h) ∙ ap (λ (v : Image). get_or v.parts i none) e ∙
        part_is τ.b τ.table τ.buffers 0 τ.s i (rw qs at h)

    part_same_at : (i : ℕ) → i < σ.s → part_in σ.b σ.table σ.buffers i ≡ part_in τ.b τ.table τ.buffers i
    part_same_at i h = let a : _ = parts_same i h in rw zero-add at a

    cell_same : (p : ℕ) → p < 5 * σ.s → get_or σ.table p 0 ≡ get_or τ.table p 0
    cell_same p h =
        let d : 5 * (p / 5) + p % 5 ≡ p = omega arith in
        let m : p % 5 < 5 = omega arith in
        let i : p / 5 < σ.s = omega arith in
        let a : get_or σ.table (5 * (p / 5) + p % 5) 0 ≡ get_or τ.table (5 * (p / 5) + p % 5) 0 =
        sym (row_cell σ.table (p / 5) (p % 5) m) ∙ ap (λ (q : Part). get_or q.numbers (p % 5) 0) (part_same_at (p / 5) i) ∙ row_cell τ.table (p / 5) (p % 5) m in
        rw d at a

    slot_same : (i j : ℕ) → i < σ.s → j < get_or σ.table (5 * i + 4) 0 → get_or σ.buffers (i * σ.b + j) 0 ≡ get_or τ.buffers (i * σ.b + j) 0
    slot_same i j h g =
        let t : get_or σ.table (5 * i + 4) 0 ≡ get_or τ.table (5 * i + 4) 0 = cell_same (5 * i + 4) (omega arith) in
        let a : get_or σ.buffers (i * σ.b + j) 0 ≡ get_or τ.buffers (i * τ.b + j) 0 =
        sym (single_cell σ.buffers (i * σ.b) (get_or σ.table (5 * i + 4) 0) j g) ∙ ap (λ (q : Part). get_or (firsts q.held) j 0) (part_same_at i h) ∙
        single_cell τ.buffers (i * τ.b) (get_or τ.table (5 * i + 4) 0) j (rw t at g) in
        a ∙ ap (λ (k : ℕ). get_or τ.buffers (i * k + j) 0) (sym qb)

  -- Two stores with one image have the same numbers and the same used cells.
  pub same_image : Same σ τ
  unfolding image_in entry_of
  same_image =
      let qe : σ.e ≡ τ.e = head_same 0 in
      let qb : σ.b ≡ τ.b = head_same 1 in
      let qn : σ.n ≡ τ.n = head_same 2 in
      let qs : σ.s ≡ τ.s = head_same 3 in
      record {
        e_same = qe;
        b_same = qb;
        n_same = qn;
        s_same = qs;
        keys_same = key_same qb qn qs;
        table_same = cell_same qb qn qs;
        slots_same = slot_same qb qn qs;
      }

-- ---- what the same store has

module _ (σ τ : Store) (same : Same σ τ) (i : ℕ) (below : i < σ.s) where
  end_same : end_of σ.n σ.s σ.table i ≡ end_of τ.n τ.s τ.table i
  end_same =
      rw (← same.n_same, ← same.s_same)
      (either (ltb (i + 1) σ.s)
      (λ t. let h : i + 1 < σ.s = ltb-true (i + 1) σ.s t in simp t (same.table_same (5 * (i + 1) + 1) (omega arith)))
      (λ t. simp t))

  -- Every entry is the same.
  pub same_entry : entry_in σ i ≡ entry_in τ i
  unfolding entry_of
  same_entry =
      let c₀ : get_or σ.table (5 * i) 0 ≡ get_or τ.table (5 * i) 0 = same.table_same (5 * i) (omega arith) in
      let c₁ : get_or σ.table (5 * i + 1) 0 ≡ get_or τ.table (5 * i + 1) 0 = same.table_same (5 * i + 1) (omega arith) in
      let c₂ : get_or σ.table (5 * i + 2) 0 ≡ get_or τ.table (5 * i + 2) 0 = same.table_same (5 * i + 2) (omega arith) in
      let c₃ : get_or σ.table (5 * i + 3) 0 ≡ get_or τ.table (5 * i + 3) 0 = same.table_same (5 * i + 3) (omega arith) in
      let c₄ : get_or σ.table (5 * i + 4) 0 ≡ get_or τ.table (5 * i + 4) 0 = same.table_same (5 * i + 4) (omega arith) in
      rw (end_same, c₀, c₁, c₂, c₃, c₄)

  module _ (l : Limits σ) (l' : Limits τ) (sound : Sound σ.b σ.n (entry_in σ i)) where
    -- The run of an entry that is not damaged is the same.
    pub same_run : run_in σ i ≡ run_in τ i
    same_run =
        let n : σ.n ≡ τ.n = same.n_same in
        rw (← same_entry)
        (part_same σ.keys τ.keys (entry_in σ i).base.0 ((entry_in σ i).end.0 - (entry_in σ i).base.0) 0 (omega (arith, sound, l.keys_hold)) (omega (arith, sound, l'.keys_hold))
        (λ p a z. same.keys_same p (omega (arith, sound))))

    -- And so are its used slots.
    pub same_used : used_in σ i ≡ used_in τ i
    same_used =
        let b : σ.b ≡ τ.b = same.b_same in
        let s : σ.s ≡ τ.s = same.s_same in
        let more : (i + 1) * σ.b ≡ i * σ.b + σ.b = add-mul i 1 σ.b ∙ rw one-mul in
        let last : (i + 1) * σ.b ≤ σ.s * σ.b = mul-le-mul_right σ.b (omega arith) in
        let h : σ.s * σ.b ≤ length τ.buffers = rw (b, s) l'.buffers_hold in
        rw (← same_entry, ← b)
        (part_same σ.buffers τ.buffers (i * σ.b) (entry_in σ i).held 0 (omega (arith, sound.held_below, l.buffers_hold)) (omega (arith, sound.held_below))
        (λ p a z. let e : i * σ.b + (p - i * σ.b) ≡ p = omega arith in rw e at (same.slots_same i (p - i * σ.b) below (omega arith))))

    -- So what it reads as, merged, is the same.
    pub same_merged : merged_in σ i ≡ merged_in τ i
    same_merged = rw (same_run, same_used)
