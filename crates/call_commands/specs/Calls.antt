-- What `calls` answers: the lines of its packets, up to the file's end or to what is refused there, or where and why the schema is refused.
-- This project's own.
use Rattle.std.specs.Prelude.{◌≡◌, ℕ, List, [], codes}
use Rattle.tl_numbers.specs.Bytes.{AreBytes}
use Rattle.tl_base.specs.Contents.{Files, HoldBytes}
use Rattle.tl_base.specs.Outside.{HasFile, IsFile}
use Rattle.tl_schema.specs.CheckedPrograms.{IsSchema}
use Rattle.tl_schema.specs.Schemas.{Declared}
use Rattle.outside.specs.Answer.{Answer, done, refused_after}
use Rattle.outside.specs.Jobs.{Job, unlinked_job}
use Rattle.outside.specs.Kept.{KeepsUnread}
use Rattle.schema_files.specs.Answering.{OfSchemaFile}
use Rattle.schema_files.specs.Loaded.{IsSchemaText}
use Rattle.schema_files.specs.Lines.{input_line}
use Rattle.tl_calls.specs.Events.{Log, Given}
use Rattle.call_commands.specs.CallReports.{Began, PacketRefused}

-- the file is told to its end, or to the first packet that is refused; the lines of those before stand
pub data OfPackets (schema : Declared) (file : List ℕ) (a : Answer) : Type 0 where
  told : (past : Log) (at : ℕ) (output : List ℕ) → Began schema file past at [] output → a ≡ done output → OfPackets schema file a
  no_packet : (past : Log) (at : ℕ) (left output : List ℕ) (place : ℕ) (why : List ℕ) → Began schema file past at left output → PacketRefused schema past at left place why
      → a ≡ refused_after output (input_line place why) → OfPackets schema file a

-- of a schema the input's file tells
abbrev pub OfInputFile : Files → List ℕ → Declared → Answer → Type 0
OfInputFile files input schema a = (file : List ℕ) × HasFile files input file × OfPackets schema file a

-- calls' answer: the schema's text is refused, or the input's file tells
abbrev pub CallsAnswer : Files → List ℕ → List ℕ → Answer → Type 0
CallsAnswer files schema input a = OfSchemaFile (codes "schema") (OfInputFile files input) files schema a

-- the work comes to the input: the file has the text of a schema
pub record HasSchema (files : Files) (schema : List ℕ) : Type 0 where
  pub text : List ℕ
  pub of : Declared
  pub there : HasFile files schema text
  pub accepted : IsSchemaText text of

-- `calls SCHEMA INPUT`, which writes as it goes and reads on, and comes to Input where the text is a schema's
abbrev pub calls_job : List ℕ → List ℕ → Job
calls_job schema input =
    record (unlinked_job (λ v a. CallsAnswer v.files schema input a) (Unit {0}) (λ v w. KeepsUnread (HasSchema v.files schema) v w)) { reads_on = Unit {0} }

-- ---- laws

-- a file has one answer, in this schema
pub record FileHasOneAnswer (schema : Declared) (file : List ℕ) : Type 0 where
  pub one : (a : Answer) × OfPackets schema file a
  pub only : (a b : Answer) → OfPackets schema file a → OfPackets schema file b → a ≡ b

-- files of bytes have one answer, in each schema
abbrev pub EachFileHasOneAnswer : Type 0
EachFileHasOneAnswer = (schema : Declared) → IsSchema schema → (file : List ℕ) → AreBytes file → FileHasOneAnswer schema file

-- files of bytes have one answer to `calls` at most, and one where both are there
pub record HasOneAnswer (files : Files) (schema input : List ℕ) : Type 0 where
  pub one : (a b : Answer) → CallsAnswer files schema input a → CallsAnswer files schema input b → a ≡ b
  pub there : IsFile files schema → IsFile files input → (a : Answer) × CallsAnswer files schema input a

abbrev pub EachHasOneAnswer : Type 0
EachHasOneAnswer = (files : Files) → HoldBytes files → (schema input : List ℕ) → HasOneAnswer files schema input

-- what is told of a file's packets is what they give
abbrev pub EachLogIsGiven : Type 0
EachLogIsGiven = (schema : Declared) (file : List ℕ) (past : Log) (at : ℕ) (left lines : List ℕ) → Began schema file past at left lines → Given schema past
