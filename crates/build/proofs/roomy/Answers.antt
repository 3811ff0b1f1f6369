use Rattle.build.proofs.Laws.{roomy_cases}
use Rattle.std.proofs.Common.{rules}
use Rattle.build.proofs.roomy.Goals as goal

-- src/lib.rt:20:1
pub returns-then-keys-e : goal.returns-then-keys-e
returns-then-keys-e c = search (roomy_cases, rules)
