-- What is made of a schema's text and of a type's name. This project's own.
use Rattle.std.specs.Prelude.{◌≡◌, ◌⊎◌, ℕ, List, [], ◌∷◌, ◌++◌, length, IfSome, slice_get, codes, Result, Ok, Err}
use Rattle.tl_schema.specs.Types.{Shape}
use Rattle.tl_schema.specs.Schemas.{Declared}
use Rattle.tl_schema.specs.AskedTypes.{IsTypeText}
use Rattle.outside.specs.declared.stop.LoadError.{LoadError}
use Rattle.outside.specs.Loading.{Refuses, Gives}
use Rattle.schema_files.specs.Loaded.{HasPlan, IsSchemaText}
use Rattle.schema_files.specs.Parts.{TellsSchema, TellsType, TellsPlan}
use Rattle.tl_codec.specs.Codings.{Made}

-- a schema, and types of it by their numbers
abbrev pub Coder : Type 0
Coder = Declared × List Shape

-- it is that of the schema that the text spells, and has no types yet
abbrev pub IsCoderOf : List ℕ → Coder → Type 0
IsCoderOf text coder = IsSchemaText text coder.0 × (coder.1 ≡ [])

-- the codec of a text, or the line of its refusal
abbrev pub Opens : List ℕ → Result Coder LoadError → Type 0
Opens text result = Gives IsCoderOf (TellsSchema (codes "schema")) text result

-- the text is that of the type, which has a plan
abbrev pub IsPlannedType : Declared → List ℕ → Shape → Type 0
IsPlannedType schema name T = IsTypeText schema.program name T × HasPlan schema T

-- the line says why the text is no type, or why its type has no plan
abbrev pub TellsName : Declared → List ℕ → List ℕ → Type 0
TellsName schema name line = TellsType schema name line ⊎ ((T : Shape) × IsTypeText schema.program name T × TellsPlan schema T line)

-- the type of the text has the next number; else the types are what they were
abbrev pub Adds : Declared → List ℕ → List Shape → List Shape → Result ℕ LoadError → Type 0
Adds schema name old new (Ok n) = (n ≡ length old) × ((T : Shape) × (new ≡ old ++ T ∷ []) × IsPlannedType schema name T)
Adds schema name old new (Err fault) = (new ≡ old) × Refuses (TellsName schema name) fault

-- what is made of it by the type with this number
abbrev pub OfType : (Declared → Shape → List ℕ → Made → Type 0) → Declared → List Shape → ℕ → List ℕ → Made → Type 0
OfType Makes schema types n given result = IfSome (slice_get types n) (λ T. Makes schema T given result)
