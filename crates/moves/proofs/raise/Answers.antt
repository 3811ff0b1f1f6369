use Rattle.std.proofs.Common.{rules}
use Rattle.moves.proofs.Tail.{tail_cases}
use Rattle.moves.proofs.raise.Goals as goal

pub add_bases-requires : goal.add_bases-requires
add_bases-requires c = search (tail_cases, rules)

pub returns : goal.returns
returns c = search (tail_cases, rules)
