-- What the functions for types by their texts answer. This project's own.
use Rattle.std.specs.Prelude.{◌≡◌, ℕ, List, [], ◌∷◌, ◌++◌, length, Result, Ok, Err}
use Rattle.tl_schema.specs.Seen.{shape}
use Rattle.tl_schema.specs.Schemas.{Declared}
use Rattle.tl_schema.specs.declared.schema.TypeRef.{TypeRef}
use Rattle.outside.specs.Loading.{Refuses}
use Rattle.outside.specs.declared.stop.LoadError.{LoadError}
use Rattle.outside.specs.declared.stop.LoadError.TheVariants as load_error
use Rattle.tl_codec.specs.Typings.{IsPlannedType, TellsName}

-- the type that the text means, or why it means none, or has no plan
abbrev pub NamesPlanned : Declared → List ℕ → Result TypeRef LoadError → Type 0
NamesPlanned schema name (Ok of) = IsPlannedType schema name (shape of)
NamesPlanned schema name (Err fault) = Refuses (TellsName schema name) fault

-- the type comes to the end, and has the next number; or there was no memory
abbrev pub Pushes : List TypeRef → TypeRef → List TypeRef → Result ℕ LoadError → Type 0
Pushes old of new (Ok n) = (n ≡ length old) × (new ≡ old ++ of ∷ [])
Pushes old of new (Err fault) = (fault ≡ load_error.Memory) × (new ≡ old)
