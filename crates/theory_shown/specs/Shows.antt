-- The list of segments of a store, and when cells show a list of segments.
use Rattle.std.specs.Prelude.{◌≡◌, List, [], ◌∷◌, ◌++◌, ℕ, zero, suc, ◌+◌, ◌*◌, length, take, drop}
use Rattle.table.specs.Store.{Store}
use Rattle.table.specs.Entries.{entry_in, run_in, used_in}
use Rattle.theory_segments.specs.Seg.{Seg, runs_of}
use Rattle.theory_segments.specs.Cuts.{rows}

-- segment i of a store
unfoldable pub seg_of : Store → ℕ → Seg
seg_of σ i =
    record {
      first = (entry_in σ i).first.0;
      rise = (entry_in σ i).rise;
      run = (entry_in σ i).run;
      keys = run_in σ i;
      used = used_in σ i;
    }

-- c segments from segment i on
abbrev pub segs_from : Store → ℕ → ℕ → List Seg
segs_from σ i zero = []
segs_from σ i (suc c) = seg_of σ i ∷ segs_from σ (suc i) c

abbrev pub segments : Store → List Seg
segments σ = segs_from σ 0 σ.s

-- each b cells start with the used slots of a segment
abbrev pub Slots : ℕ → List Seg → List ℕ → Type 0
Slots b [] cells = Unit
Slots b (x ∷ xs) cells = (take (length x.used) cells ≡ x.used) × Slots b xs (drop b cells)

-- from segment i and position `at` on, the store's cells show these segments, and no more; cells past the counts may hold anything
pub record Shown (σ : Store) (i at : ℕ) (segs : List Seg) : Type 0 where
  pub count : i + length segs ≡ σ.s
  pub total : at + length (runs_of segs) ≡ σ.n
  pub more : List ℕ
  pub table : drop (5 * i) σ.table ≡ rows at segs ++ more
  pub rest : List ℕ
  pub keys : drop at σ.keys ≡ runs_of segs ++ rest
  pub slots : Slots σ.b segs (drop (i * σ.b) σ.buffers)
