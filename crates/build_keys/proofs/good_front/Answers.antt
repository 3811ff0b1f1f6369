use Rattle.build_keys.proofs.Fronts.{good_front_cases}
use Rattle.std.proofs.Common.{rules}
use Rattle.build_keys.proofs.good_front.Goals as goal

-- src/lib.rt:47:1
pub returns-then-is_key : goal.returns-then-is_key
returns-then-is_key c = search (good_front_cases, rules)
