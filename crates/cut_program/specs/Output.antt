-- 01, "The program": what `cut` writes for any bytes that it reads.
use Rattle.std.specs.Prelude.{Result, Ok, Err}
use Rattle.terms.specs.declared.Refusal.{Refusal}
use Rattle.terms.specs.declared.Sizes.{Sizes}
use Rattle.std.specs.Prelude.{List, ℕ, replicate}
use Rattle.lists.specs.Over.{over}
use Rattle.build.specs.Build.{built_of, table_by}
use Rattle.cut_input.specs.declared.Listed.{Listed}
use Rattle.cut_input.specs.StartList.{listed_of, given_of}
use Rattle.cut_output.specs.Report.{report_of, refusal_of}

-- what build's answer is put out as
abbrev pub put_out : Result ℕ Refusal → ℕ → ℕ → ℕ → List ℕ → List ℕ
put_out (Ok s) n e b table = report_of n s e b table
put_out (Err r) n e b table = refusal_of r

unfoldable pub built_output : ℕ → ℕ → ℕ → List ℕ → List ℕ → List ℕ → List ℕ
built_output e b n keys table buffers =
    put_out (built_of e b n keys table buffers) n e b (table_by (built_of e b n keys table buffers) e n keys table)

-- "a working area for 512 keys, 512 segments and 2,048 buffer slots", of zeros; the keys of the list stand in its first cells
abbrev pub list_output : Result Listed Refusal → List ℕ → List ℕ
list_output (Ok g) given = built_output g.e g.b g.n (over (replicate 512 0) 0 given) (replicate 2560 0) (replicate 2048 0)
list_output (Err r) given = refusal_of r

unfoldable pub output_of : List ℕ → List ℕ
output_of text = list_output (listed_of 512 text) (given_of 512 text)

-- what an answer is put out as, with the table that it left
abbrev pub shown_of : Result Sizes Refusal → List ℕ → List ℕ
shown_of (Ok z) table = report_of z.n z.s z.e z.b table
shown_of (Err r) table = refusal_of r
