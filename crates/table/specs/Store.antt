-- A store as it is lent: its four numbers and its three slices.
use Rattle.std.specs.Prelude.{List, ℕ}
use Rattle.terms.specs.declared.Sizes.{Sizes}
use Rattle.terms.specs.Limits.{sizes_of, in_use_of}
use Rattle.table.specs.declared.Store.{Store as Lent}

pub record Store : Type 0 where
  pub e : ℕ
  pub b : ℕ
  pub n : ℕ
  pub s : ℕ
  pub keys : List ℕ
  pub table : List ℕ
  pub buffers : List ℕ

abbrev pub store_of : Sizes → List ℕ → List ℕ → List ℕ → Store
store_of z keys table buffers = record { e = z.e; b = z.b; n = z.n; s = z.s; keys = keys; table = table; buffers = buffers }

-- the one that is lent
abbrev pub store_in : Lent → Store
store_in l = store_of l.sizes l.keys.now l.table.now l.buffers.now

-- its four numbers together
abbrev pub sizes_in : Store → Sizes
sizes_in σ = sizes_of σ.e σ.b σ.n σ.s

-- the bound that its cut, its window and its check use
abbrev pub in_use : Store → ℕ
in_use σ = in_use_of (sizes_in σ)
