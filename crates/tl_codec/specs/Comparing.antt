-- What is told of two schemas: what `layers` answers to their texts. This project's own.
use Rattle.std.specs.Prelude.{◌≡◌, ℕ, List, codes, Ok, Err}
use Rattle.tl_schema.specs.Types.{Shape}
use Rattle.tl_schema.specs.Schemas.{Declared}
use Rattle.tl_schema.specs.AskedTypes.{IsTypeText}
use Rattle.outside.specs.Answer.{Answer, done, refused}
use Rattle.outside.specs.Loading.{Refuses}
use Rattle.schema_files.specs.Answering.{OfSchemaText}
use Rattle.schema_files.specs.Causes.{TypeNameCause}
use Rattle.schema_files.specs.Lines.{type_line}
use Rattle.schema_files.specs.Loaded.{TypeNameRefused}
use Rattle.codec_commands.specs.Layers.{OfLayers}
use Rattle.tl_codec.specs.Codings.{Made}

-- what an answer writes, or the line with which it refuses; out of memory is free
abbrev pub MakesAnswer : (Answer → Type 0) → Made → Type 0
MakesAnswer Is (Ok out) = Is (done out.items)
MakesAnswer Is (Err fault) = Refuses (λ line. Is (refused line)) fault

-- the text is refused as a type of the old schema, or it is one, and then the new schema's text tells
pub data OfTypeText (old : Declared) (new type : List ℕ) (a : Answer) : Type 0 where
  no_type : (cause : TypeNameCause) → TypeNameRefused old type cause → a ≡ refused (type_line cause) → OfTypeText old new type a
  typed : (T : Shape) → IsTypeText old.program type T → OfSchemaText (codes "new") (λ S. OfLayers old S T) new a → OfTypeText old new type a

-- the old schema's text is refused, or the type of its schema tells
abbrev pub OfTexts : List ℕ → List ℕ → List ℕ → Answer → Type 0
OfTexts old new type = OfSchemaText (codes "schema") (λ S. OfTypeText S new type) old
