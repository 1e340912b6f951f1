-- What is read from a text: the value that it is the form of, or why there is none. This project's own.
use Rattle.std.specs.Prelude.{◌≡◌, ℕ, List, Some, None, Result, Ok, Err, IsUtf8}
use Rattle.serde_json.specs.Data.{Data}
use Rattle.serde_json.specs.Read.{read as read_text}
use Rattle.tl_schema.specs.Types.{Shape}
use Rattle.tl_schema.specs.Schemas.{Declaration}
use Rattle.tl_types.specs.Seen.{view}
use Rattle.tl_types.specs.Values.{ValueView}
use Rattle.tl_types.specs.declared.value.Value.{Value}
use Rattle.tl_show.specs.Reading.{read}
use Rattle.tl_show.specs.declared.fault.JsonTextFault.{JsonTextFault}
use Rattle.tl_show.specs.declared.fault.JsonTextFault.TheVariants.{NoJson, Form, Memory}

-- the bytes are UTF-8 and this JSON, of at most 127 levels
abbrev pub IsJsonText : List ℕ → Data → Type 0
IsJsonText bytes d = IsUtf8 bytes × (read_text bytes ≡ Some d)

-- the bytes are the JSON that is the form of the value
abbrev pub IsFormOf : List Declaration → Shape → List ℕ → ValueView → Type 0
IsFormOf ds T bytes v = (d : Data) × IsJsonText bytes d × (read ds T d ≡ Ok v)

-- the value that the bytes are the form of, or why they are that of none; out of memory is free
abbrev pub TellsText : List Declaration → Shape → List ℕ → Result Value JsonTextFault → Type 0
TellsText ds T bytes (Ok v) = IsFormOf ds T bytes (view v)
TellsText ds T bytes (Err NoJson) = IsUtf8 bytes → read_text bytes ≡ None
TellsText ds T bytes (Err (Form path cause)) = (d : Data) × IsJsonText bytes d × (read ds T d ≡ Err (path.items, cause))
TellsText ds T bytes (Err Memory) = Unit {0}
