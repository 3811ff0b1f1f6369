-- 01, "Reading: 10 (head), 1, 10 (rest), ..": what the judging pass answers on every byte string, of any edition.
use Rattle.std.specs.Prelude.{Result, Ok, Err}
use Rattle.terms.specs.declared.Refusal.{Refusal}
use Rattle.std.specs.Prelude.{List, ℕ}
use Rattle.terms.specs.declared.Sizes.{Sizes}
use Rattle.terms.specs.Limits.{sizes_of}
use Rattle.lists.specs.Tests.{pick}
use Rattle.table.specs.Limits.{counted_of}
use Rattle.terms.specs.declared.Refusal.TheVariants.{Limits, Malformed}
use Rattle.image_little.specs.Little.{get_at}
use Rattle.image_records.specs.declared.Layout.{Layout}
use Rattle.image_records.specs.Records.{stands_at}
use Rattle.image_records.specs.Images.{rest_of}

-- "e, B, n, s, two each" follow the head's kind
abbrev pub sizes_at : List ℕ → Sizes
sizes_at bytes = sizes_of (get_at bytes 1 2) (get_at bytes 3 2) (get_at bytes 5 2) (get_at bytes 7 2)

-- e, B, n and s where the walk came past the last byte, else "10: byte offset of the record"
abbrev pub answer_of : Sizes → Result ℕ ℕ → Result Sizes Refusal
answer_of z (Ok _) = Ok z
answer_of z (Err p) = Err (Malformed p)

-- after a head with these numbers: 1 ("image reading tests the limits only"), then 10 at the rest
unfoldable pub headed_of : Layout → List ℕ → Sizes → Result Sizes Refusal
headed_of f bytes z =
    pick (counted_of z.e z.b z.n z.s) (answer_of z (rest_of f bytes z.b z.n z.s f.head.size)) (Err Limits)

-- 10 at the head comes first
unfoldable pub judged_of : Layout → List ℕ → Result Sizes Refusal
judged_of f bytes = pick (stands_at f.head bytes 0) (headed_of f bytes (sizes_at bytes)) (Err (Malformed 0))
