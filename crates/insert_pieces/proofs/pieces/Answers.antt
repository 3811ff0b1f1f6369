use Rattle.insert_pieces.proofs.Laws.{pieces_cases}
use Rattle.std.proofs.Common.{rules}
use Rattle.insert_pieces.proofs.pieces.Goals as goal

-- src/lib.rt:118:21
pub returns-in_err-x : goal.returns-in_err-x
returns-in_err-x c = search (pieces_cases, rules)

-- src/lib.rt:120:9
pub returns-then-not-is_key : goal.returns-then-not-is_key
returns-then-not-is_key c = search (pieces_cases, c.in_ok-x.was, rules)

-- src/lib.rt:122:5
pub pieces_on-requires : goal.pieces_on-requires
pieces_on-requires c = search (pieces_cases, c.in_ok-x.was, rules)
