use Rattle.image_records.specs.Records.{walk_of}
use Rattle.image_judge.specs.Asks.{Ready}
use Rattle.std.proofs.Common.{◌≡◌, ◌-◌}
use Rattle.image_records.specs.Records.{walk_of}
use Rattle.image_judge.specs.Asks.{Ready}
use Rattle.image_judge.proofs.walk.Given as goal

abbrev pub invariant-loop : goal.invariant-loop
invariant-loop l = Ready l.k l.bytes l.p × (walk_of l.k l.bytes (l.count - l.counter) l.p ≡ walk_of l.k l.bytes l.count l.at)
