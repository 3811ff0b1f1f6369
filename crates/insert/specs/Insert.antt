-- 01, "Insert": what it answers, on every input.
use Rattle.std.specs.Prelude.{Result, Ok, Err}
use Rattle.terms.specs.declared.Refusal.{Refusal}
use Rattle.std.specs.Prelude.{ℕ, ◌+◌, ◌-◌}
use Rattle.terms.specs.declared.Sizes.{Sizes}
use Rattle.table.specs.Store.{Store, sizes_in}
use Rattle.insert_decide.specs.declared.Decided.{Decided}
use Rattle.insert_decide.specs.declared.Decided.TheVariants.{Put, Merge}
use Rattle.insert_decide.specs.Decided.{decided_of}
use Rattle.answers.specs.declared.Inserted.{Inserted}
use Rattle.answers.specs.declared.Inserted.TheVariants.{Buffered, Merged}

-- "n grows by B, s by t−1. The answer is i, t and the new n and s; a buffered insert answers i and its slot."
abbrev pub answer_of : Sizes → Result Decided Refusal → Result Inserted Refusal
answer_of z (Ok (Put i x slot)) = Ok (Buffered i slot)
answer_of z (Ok (Merge i x t)) = Ok (Merged i t (z.n + z.b) (z.s - 1 + t))
answer_of z (Err r) = Err r

-- what is decided (`decided_of`: "1, 2, 9 (entry, buffer), 5, 9 (merge), 6, 7"), as the answer
unfoldable pub insert_of : Store → ℕ → Result Inserted Refusal
insert_of σ k = answer_of (sizes_in σ) (decided_of σ k)
