-- What follows of a schema's text and of a type's word, where an input comes after them. This project's own.
use Rattle.std.specs.Prelude.{ℕ, List, Option, Some, None, codes}
use Rattle.tl_base.specs.declared.host.Slot.{Slot}
use Rattle.tl_base.specs.declared.host.Slot.TheVariants.{Schema, Input}
use Rattle.tl_schema.specs.Types.{Shape}
use Rattle.tl_schema.specs.Schemas.{Declared}
use Rattle.tl_schema.specs.AskedTypes.{IsTypeText}
use Rattle.outside.specs.Answer.{refused}
use Rattle.outside.specs.declared.status.Status.{Status}
use Rattle.outside.specs.Events.{Event}
use Rattle.outside.specs.Pieces.{ReadsFile}
use Rattle.outside.specs.Printing.{Answers, Prints, Unread}
use Rattle.outside.specs.Steps.{Step, Then}
use Rattle.schema_files.specs.Causes.{SchemaCause, TypeNameCause, PlanCause}
use Rattle.schema_files.specs.Lines.{schema_line, type_line, plan_line}
use Rattle.schema_files.specs.Loaded.{IsSchemaText, SchemaRefused, TypeNameRefused, HasPlan, PlanRefused}
use Rattle.schema_files.specs.declared.schema_text.TheConstants.{SCHEMA_BYTES}
use Rattle.codec_commands.specs.Typed.{ToInput}

-- what follows of a schema
abbrev pub OfSchema : Type 1
OfSchema = Declared → Step Status

-- what follows of a schema and one of its types
abbrev pub OfType : Type 1
OfType = Declared → Shape → Step Status

-- the text is refused, and its line is told, which calls it so; or it is a schema's, and then the rest
pub data OfText (what : List ℕ) (Rest : OfSchema) (text : List ℕ) (t : List Event) (status : Status) : Type 0 where
  no_schema : (cause : SchemaCause) → SchemaRefused text cause → Prints (refused (schema_line what cause)) t status → OfText what Rest text t status
  schema_of : (schema : Declared) → IsSchemaText text schema → Rest schema t status → OfText what Rest text t status

-- the type has no plan, and its line is told; or it has one, and then the rest
pub data OfPlan (Rest : OfType) (s : Shape) (schema : Declared) (t : List Event) (status : Status) : Type 0 where
  no_plan : (cause : PlanCause) → PlanRefused schema s cause → Prints (refused (plan_line cause)) t status → OfPlan Rest s schema t status
  planned : HasPlan schema s → Rest schema s t status → OfPlan Rest s schema t status

-- the word is refused as a type, and its line is told; or it is one, and then the rest
pub data OfAsked (Rest : OfType) (word : List ℕ) (schema : Declared) (t : List Event) (status : Status) : Type 0 where
  no_type : (cause : TypeNameCause) → TypeNameRefused schema word cause → Prints (refused (type_line cause)) t status → OfAsked Rest word schema t status
  typed : (s : Shape) → IsTypeText schema.program word s → Rest schema s t status → OfAsked Rest word schema t status

-- likewise, and what follows of the type's plan
abbrev pub OfWord : OfType → List ℕ → OfSchema
OfWord Rest = OfAsked (λ schema s. OfPlan Rest s schema)

abbrev pub after_schema : List ℕ → OfSchema → Option (List ℕ) → Step Status
after_schema what Rest (Some text) = OfText what Rest text
after_schema what Rest None = Unread

-- a schema's file is read by a slot, and then the rest
abbrev pub OfFile : Slot → List ℕ → OfSchema → List ℕ → Step Status
OfFile slot what Rest name = Then (ReadsFile slot name SCHEMA_BYTES) (after_schema what Rest)

-- a command of one schema: its file is read by the slot Schema
abbrev pub OfCommand : OfSchema → List ℕ → Step Status
OfCommand = OfFile Schema (codes "schema")

abbrev pub after_input : ToInput → Declared → Shape → Option (List ℕ) → Step Status
after_input Tells schema s (Some bytes) = Answers (Tells schema s bytes)
after_input Tells schema s None = Unread

-- the input's file is read, to its end or to one byte past the limit, and what it tells is printed
abbrev pub OfInput : ToInput → List ℕ → ℕ → OfType
OfInput Tells input limit schema s = Then (ReadsFile Input input limit) (after_input Tells schema s)
