-- What reading an input of JSON answers: the value of a type that it is, or why it is none. This project's own.
use Rattle.std.specs.Prelude.{◌≡◌, ℕ, ◌<◌, ◌≤◌, List, length, Some, None, Ok, Err, IsUtf8}
use Rattle.serde_json.specs.Data.{Data}
use Rattle.serde_json.specs.Read.{read as read_text}
use Rattle.tl_schema.specs.Types.{Shape}
use Rattle.tl_schema.specs.Schemas.{Declared}
use Rattle.tl_types.specs.Values.{ValueView}
use Rattle.tl_types.specs.Fitting.{misfit}
use Rattle.tl_types.specs.declared.value.TheConstants.{MAX_LEVELS}
use Rattle.tl_show.specs.Reading.{read}
use Rattle.schema_files.specs.declared.json_input.TheConstants.{JSON_BYTES}
use Rattle.schema_files.specs.Causes.{JsonCause, TooLong, NoJson, Unformed, Misfit}

-- the bytes are UTF-8 and this JSON, of at most 127 levels, and not too many
abbrev pub IsJson : List ℕ → Data → Type 0
IsJson bytes d = (length bytes ≤ JSON_BYTES) × IsUtf8 bytes × (read_text bytes ≡ Some d)

-- the bytes are no UTF-8, or no JSON of at most 127 levels, and not too many
abbrev pub IsNoJson : List ℕ → Type 0
IsNoJson bytes = (length bytes ≤ JSON_BYTES) × (IsUtf8 bytes → read_text bytes ≡ None)

-- the bytes are the JSON that is the form of the value, whether it fits the type or not
abbrev pub IsForm : Declared → Shape → List ℕ → ValueView → Type 0
IsForm schema T bytes v = (d : Data) × IsJson bytes d × (read schema.decls T d ≡ Ok v)

-- the bytes are the JSON of the value, which fits the type
abbrev pub IsJsonOf : Declared → Shape → List ℕ → ValueView → Type 0
IsJsonOf schema T bytes v = (d : Data) × IsJson bytes d × (read schema.decls T d ≡ Ok v) × (misfit schema.decls MAX_LEVELS None T v ≡ None)

-- the bytes are the JSON of no value that fits, for this cause
abbrev pub JsonRefused : Declared → Shape → List ℕ → JsonCause → Type 0
JsonRefused schema T bytes TooLong = JSON_BYTES < length bytes
JsonRefused schema T bytes NoJson = IsNoJson bytes
JsonRefused schema T bytes (Unformed path cause) = (d : Data) × IsJson bytes d × (read schema.decls T d ≡ Err (path, cause))
JsonRefused schema T bytes (Misfit path cause) =
    (d : Data) × (v : ValueView) × IsJson bytes d × (read schema.decls T d ≡ Ok v) × (misfit schema.decls MAX_LEVELS None T v ≡ Some (path, cause))

-- the bytes are the form of no value, for this cause
abbrev pub FormRefused : Declared → Shape → List ℕ → JsonCause → Type 0
FormRefused schema T bytes (Misfit path cause) = ⊥
FormRefused schema T bytes cause = JsonRefused schema T bytes cause
