-- The cases of the exports.
-- Assumes nothing.
use Rattle.std.specs.Prelude.{Result}
use Rattle.terms.specs.declared.Refusal.{Refusal}
use Rattle.std.specs.Prelude.{⊤}
use mathlib.Core.Path.{◌≡◌, ap, ◌∙◌}
use mathlib.Core.List.{List}
use Prim.Native.Nat.{ℕ}
use lib.ListN.{length}
use Rattle.terms.specs.declared.Sizes.{Sizes}
use Rattle.table.specs.Store.{Store, store_of}
use Rattle.build.specs.Build.{built_of, table_by}
use Rattle.judge.specs.Check.{check_of}
use Rattle.answers.specs.declared.Looked.{Looked}
use Rattle.lookup.specs.Lookup.{lookup_of}
use Rattle.choose.specs.Stretch.{keys_from}
use Rattle.range.specs.Range.{range_of, out_by as ranged_out}
use Rattle.answers.specs.declared.Inserted.{Inserted}
use Rattle.insert.specs.Insert.{insert_of}
use Rattle.insert.specs.Cells.{keys_by as inserted_keys, table_by as inserted_table, buffers_by as inserted_buffers}
use Rattle.image_write.specs.Writing.{write_of, out_by}
use Rattle.image_read.specs.Loading.{load_of, keys_by, table_by as loaded_table, buffers_by}
use Rattle.readstore_numbers.proofs.Laws.{checked_are, looked_are, inserted_are, loaded_are}
use Rattle.readstore_numbers.specs.Numbers.{answer_numbers, unit_numbers, found_numbers, taken_numbers, sizes_numbers, built_numbers, checked_numbers, looked_numbers, ranged_numbers, inserted_numbers, written_numbers, loaded_numbers}

-- the caller's numbers are the call's

module _ {e b n f c m : ℕ} (keys table buffers : List ℕ) (pe : f ≡ e) (pb : c ≡ b) (pn : m ≡ n) {a : Result ℕ Refusal} (call : a ≡ built_of f c m keys table buffers) where
  pub build_answered : {l : List ℕ} → l ≡ built_numbers a → l ≡ built_numbers (built_of e b n keys table buffers)
  build_answered p = p ∙ ap built_numbers (rw (← pe, ← pb, ← pn) call)

  pub build_written : {after : List ℕ} → after ≡ table_by a f m keys table → after ≡ table_by (built_of e b n keys table buffers) e n keys table
  build_written p = rw (← pe, ← pb, ← pn) (p ∙ ap (λ (x : Result ℕ Refusal). table_by x f m keys table) call)

pub store_same : (keys table buffers : List ℕ) {w z : Sizes} → w ≡ z → store_of w keys table buffers ≡ store_of z keys table buffers
store_same keys table buffers e = ap (λ (x : Sizes). store_of x keys table buffers) e

-- the store that is lent is the one that the caller's numbers and slices are
module _ (σ τ : Store) (is : τ ≡ σ) where
  pub check_answered : {a : Result ⊤ Refusal} {l : List ℕ} → a ≡ check_of τ → l ≡ answer_numbers unit_numbers a → l ≡ checked_numbers (check_of σ)
  check_answered {a} call p = p ∙ checked_are a ∙ ap checked_numbers (rw (← is) call)

  pub lookup_answered : (k : ℕ) {a : Result Looked Refusal} {l : List ℕ} → a ≡ lookup_of τ k → l ≡ answer_numbers found_numbers a → l ≡ looked_numbers (lookup_of σ k)
  lookup_answered k {a} call p = p ∙ looked_are a ∙ ap looked_numbers (rw (← is) call)

  module _ (low high : ℕ) (out : List ℕ) {a : Result ℕ Refusal} (call : a ≡ range_of τ low high (length out)) where
    pub range_answered : {l : List ℕ} → l ≡ ranged_numbers a → l ≡ ranged_numbers (range_of σ low high (length out))
    range_answered p = p ∙ ap ranged_numbers (rw (← is) call)

    pub range_written : {after : List ℕ} → after ≡ ranged_out (keys_from τ low high) a out → after ≡ ranged_out (keys_from σ low high) (range_of σ low high (length out)) out
    range_written p = rw (← is) (p ∙ ap (λ (x : Result ℕ Refusal). ranged_out (keys_from τ low high) x out) call)

  module _ (k : ℕ) {a : Result Inserted Refusal} (call : a ≡ insert_of τ k) where
    pub insert_answered : {l : List ℕ} → l ≡ answer_numbers taken_numbers a → l ≡ inserted_numbers (insert_of σ k)
    insert_answered p = p ∙ inserted_are a ∙ ap inserted_numbers (rw (← is) call)

    pub insert_keys : {after : List ℕ} → after ≡ inserted_keys a τ k → after ≡ inserted_keys (insert_of σ k) σ k
    insert_keys p = rw (← is) (p ∙ ap (λ (x : Result Inserted Refusal). inserted_keys x τ k) call)

    pub insert_table : {after : List ℕ} → after ≡ inserted_table a τ k → after ≡ inserted_table (insert_of σ k) σ k
    insert_table p = rw (← is) (p ∙ ap (λ (x : Result Inserted Refusal). inserted_table x τ k) call)

    pub insert_buffers : {after : List ℕ} → after ≡ inserted_buffers a τ k → after ≡ inserted_buffers (insert_of σ k) σ k
    insert_buffers p = rw (← is) (p ∙ ap (λ (x : Result Inserted Refusal). inserted_buffers x τ k) call)

  module _ (out : List ℕ) {a : Result ℕ Refusal} (call : a ≡ write_of τ (length out)) where
    pub write_answered : {l : List ℕ} → l ≡ written_numbers a → l ≡ written_numbers (write_of σ (length out))
    write_answered p = p ∙ ap written_numbers (rw (← is) call)

    pub write_written : {after : List ℕ} → after ≡ out_by a τ out → after ≡ out_by (write_of σ (length out)) σ out
    write_written p = rw (← is) (p ∙ ap (λ (x : Result ℕ Refusal). out_by x τ out) call)

-- reading takes no numbers
module _ (image keys table buffers : List ℕ) {a : Result Sizes Refusal} (call : a ≡ load_of image keys table buffers) where
  pub read_answered : {l : List ℕ} → l ≡ answer_numbers sizes_numbers a → l ≡ loaded_numbers (load_of image keys table buffers)
  read_answered p = p ∙ loaded_are a ∙ ap loaded_numbers call

  pub read_keys : {after : List ℕ} → after ≡ keys_by a image keys → after ≡ keys_by (load_of image keys table buffers) image keys
  read_keys p = p ∙ ap (λ (x : Result Sizes Refusal). keys_by x image keys) call

  pub read_table : {after : List ℕ} → after ≡ loaded_table a image table → after ≡ loaded_table (load_of image keys table buffers) image table
  read_table p = p ∙ ap (λ (x : Result Sizes Refusal). loaded_table x image table) call

  pub read_buffers : {after : List ℕ} → after ≡ buffers_by a image buffers → after ≡ buffers_by (load_of image keys table buffers) image buffers
  read_buffers p = p ∙ ap (λ (x : Result Sizes Refusal). buffers_by x image buffers) call
