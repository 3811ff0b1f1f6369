-- 01, "Kind 1, head, 8 bytes: e, B, n, s, two each. Kind 2, run key, 6. Kind 3, segment, 17: first 6, base 2, rise 2, run 6, held 1.
-- Kind 4, buffered key, 6. Kind 9, end, 0."
use Rattle.std.specs.Prelude.{[], ◌∷◌}
use Rattle.image_records.specs.Records.{shape}
use Rattle.image_records.specs.Images.{Edition}

abbrev pub first : Edition
first =
    record {
      head = shape 1 (2 ∷ (2 ∷ (2 ∷ (2 ∷ []))));
      key = shape 2 (6 ∷ []);
      segment = shape 3 (6 ∷ (2 ∷ (2 ∷ (6 ∷ (1 ∷ [])))));
      buffered = shape 4 (6 ∷ []);
      end = shape 9 [];
      held = 17;
    }
