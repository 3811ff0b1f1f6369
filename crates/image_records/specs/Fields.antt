-- 01, "Numbers": a segment's five numbers, "first key, base, rise, run, held", as a list.
use Rattle.std.specs.Prelude.{List, [], ◌∷◌, ℕ}
use Rattle.image_records.specs.declared.Fields.{Fields}

abbrev pub fields_of : Fields → List ℕ
fields_of f = f.first ∷ (f.base ∷ (f.rise ∷ (f.run ∷ (f.held ∷ []))))
