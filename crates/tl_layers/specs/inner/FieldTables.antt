-- The fields of a declaration, and the indexes of their names. This project's own.
use Rattle.std.specs.Prelude.{◌≡◌, ℕ, ◌<◌, ◌^◌, List, [], ◌∷◌, length, false, refl}
use Rattle.std.specs.Coded.{Coded, code_by}
use Rattle.tl_names.specs.NameIndexes.{index_among}
use Rattle.tl_schema.specs.Types.{int}
use Rattle.tl_schema.specs.Schemas.{Slot, Declaration, Declared}
use Rattle.tl_schema.specs.inner.SchemaCodes.{declared_code}
use Rattle.tl_layers.specs.Breaks.{field_index}

abbrev fields_of_first : List Declaration → List Slot
fields_of_first [] = []
fields_of_first (d ∷ ds) = d.fields

-- how the logic stores fields: as those of a schema's only declaration
abbrev pub fields_code : Coded (List Slot)
fields_code =
    code_by Declared declared_code
    (λ fs. record { program = []; decls = record { name = []; number = 0; vars = 0; fields = fs; function = false; head = 0; result = int } ∷ [] })
    (λ s. fields_of_first s.decls) (λ _. refl)

-- the numbers are the indexes of the fields by their names
pub record AreFields (fs : List Slot) (names : List (List ℕ × ℕ)) : Type 0 where
  pub few : length fs < 2 ^ 32
  pub indexes : (name : List ℕ) → index_among names name ≡ field_index fs name
