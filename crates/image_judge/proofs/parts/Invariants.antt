use Rattle.image_records.specs.Images.{parts_of}
use Rattle.image_judge.specs.Asks.{Readable}
use Rattle.std.proofs.Common.{◌≡◌, ◌-◌}
use Rattle.image_records.specs.Images.{parts_of}
use Rattle.image_judge.specs.Asks.{Readable}
use Rattle.image_judge.proofs.parts.Given as goal

abbrev pub invariant-loop : goal.invariant-loop
invariant-loop l = Readable l.f l.bytes l.p × (parts_of l.f l.b l.bytes (l.s - l.counter) l.p ≡ parts_of l.f l.b l.bytes l.s l.at)
