use Rattle.image_write.proofs.Laws.{write_cases}
use Rattle.std.proofs.Common.{rules}
use Rattle.image_write.proofs.write_image.Goals as goal

-- src/lib.rt:45:5
pub put_image-requires : goal.put_image-requires
put_image-requires c = search (write_cases, c.in_ok-length.ensures, rules)
