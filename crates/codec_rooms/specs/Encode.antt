-- What `encode` does. This project's own.
use Rattle.std.specs.Prelude.{ℕ, List}
use Rattle.outside.specs.declared.status.Status.{Status}
use Rattle.outside.specs.Steps.{Step}
use Rattle.schema_files.specs.declared.json_input.TheConstants.{JSON_BYTES}
use Rattle.codec_commands.specs.Encode.{OfJson}
use Rattle.codec_rooms.specs.Typed.{OfCommand, OfInput, OfSchema, OfWord}

-- what follows of the schema: its type, and then the input's JSON
abbrev pub encodes_by : List ℕ → List ℕ → OfSchema
encodes_by type input = OfWord (OfInput OfJson input JSON_BYTES) type

-- `encode SCHEMA TYPE INPUT`: the schema's file is read, then its type is looked for, then the input's file is read, and the spelling of its value written
abbrev pub encodes : List ℕ → List ℕ → List ℕ → Step Status
encodes schema type input = OfCommand (encodes_by type input) schema
