-- That what is made of texts and bytes is what the program answers over files that have them. This project's own.
use Rattle.std.specs.Prelude.{ℕ, List, codes}
use Rattle.tl_base.specs.Contents.{Files}
use Rattle.tl_base.specs.Outside.{HasFile}
use Rattle.tl_schema.specs.Types.{Shape}
use Rattle.tl_schema.specs.Schemas.{Declared}
use Rattle.outside.specs.Answer.{Answer, done, refused}
use Rattle.schema_files.specs.Loaded.{IsSchemaText}
use Rattle.schema_files.specs.Parts.{TellsSchema}
use Rattle.codec_commands.specs.Check.{CheckAnswer, listing}
use Rattle.codec_commands.specs.Decode.{DecodeAnswer}
use Rattle.codec_commands.specs.Encode.{EncodeAnswer}
use Rattle.codec_commands.specs.Layers.{LayersAnswer}
use Rattle.tl_codec.specs.Codings.{Decodes, Encodes, Made}
use Rattle.tl_codec.specs.Typings.{IsPlannedType, TellsName}
use Rattle.tl_codec.specs.Comparing.{MakesAnswer, OfTexts}

-- a text that is no schema's: the line is that of each command
abbrev pub RefusesAlike : Type 0
RefusesAlike = (files : Files) (name text type input line : List ℕ) → HasFile files name text → TellsSchema (codes "schema") text line
    → CheckAnswer files name (refused line) × DecodeAnswer files name type input (refused line) × EncodeAnswer files name type input (refused line)

-- a schema, a type's text and an input: the list, the line of a text that is no type's or of a type without a plan, and what is made of the input
pub record AnswersAlike (files : Files) (name type input : List ℕ) (schema : Declared) (given : List ℕ) : Type 0 where
  pub checked : CheckAnswer files name (done (listing schema.decls))
  pub unnamed : (line : List ℕ) → TellsName schema type line → DecodeAnswer files name type input (refused line) × EncodeAnswer files name type input (refused line)
  pub decoded : (T : Shape) (made : Made) → IsPlannedType schema type T → Decodes schema T given made → MakesAnswer (DecodeAnswer files name type input) made
  pub encoded : (T : Shape) (made : Made) → IsPlannedType schema type T → Encodes schema T given made → MakesAnswer (EncodeAnswer files name type input) made

abbrev pub EachAnswersAlike : Type 0
EachAnswersAlike = (files : Files) (name text type input given : List ℕ) (schema : Declared) → HasFile files name text → IsSchemaText text schema → HasFile files input given
    → AnswersAlike files name type input schema given

-- two schemas' texts and a type's
abbrev pub ComparesAlike : Type 0
ComparesAlike = (files : Files) (o n old new type : List ℕ) (a : Answer) → HasFile files o old → HasFile files n new → OfTexts old new type a → LayersAnswer files o n type a
