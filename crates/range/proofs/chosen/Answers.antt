use Rattle.range.proofs.Laws.{chosen_cases}
use Rattle.std.proofs.Common.{rules}
use Rattle.range.proofs.chosen.Goals as goal

pub stretched-requires : goal.stretched-requires
stretched-requires c = search (chosen_cases, rules)
