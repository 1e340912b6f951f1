-- What a command answers once it comes to a schema: where and why the text is refused, or what its schema tells. This project's own.
use Rattle.std.specs.Prelude.{◌≡◌, ℕ, List}
use Rattle.tl_base.specs.Contents.{Files}
use Rattle.tl_base.specs.Outside.{HasFile}
use Rattle.tl_schema.specs.Schemas.{Declared}
use Rattle.outside.specs.Answer.{Answer, refused}
use Rattle.schema_files.specs.Causes.{SchemaCause}
use Rattle.schema_files.specs.Loaded.{IsSchemaText, SchemaRefused}
use Rattle.schema_files.specs.Lines.{schema_line}

-- the text is no schema's, which is told by what its input is called; or it is one's, and then the schema tells
pub data OfSchemaText (what : List ℕ) (Then : Declared → Answer → Type 0) (text : List ℕ) (a : Answer) : Type 0 where
  no_schema : (cause : SchemaCause) → SchemaRefused text cause → a ≡ refused (schema_line what cause) → OfSchemaText what Then text a
  schema_of : (schema : Declared) → IsSchemaText text schema → Then schema a → OfSchemaText what Then text a

-- the same of a file
abbrev pub OfSchemaFile : List ℕ → (Declared → Answer → Type 0) → Files → List ℕ → Answer → Type 0
OfSchemaFile what Then files name a = (text : List ℕ) × HasFile files name text × OfSchemaText what Then text a
