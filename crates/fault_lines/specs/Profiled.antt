-- A schema as the profile of the protocol: the profile, or the line that says which form is missing or differs. This project's own.
use Rattle.std.specs.Prelude.{◌≡◌, ℕ, List, codes, Result, Ok, Err}
use Rattle.tl_base.specs.Contents.{Files}
use Rattle.tl_base.specs.Outside.{HasFile}
use Rattle.tl_schema.specs.Schemas.{Declared}
use Rattle.tl_schema.specs.CheckedPrograms.{IsSchema}
use Rattle.wire_profile.specs.Indexes.{ProfileView}
use Rattle.wire_profile.specs.Profiles.{IsProfile}
use Rattle.wire_profile.specs.Faults.{FaultView, missing, differs, IsAnswer}
use Rattle.outside.specs.Answer.{Answer, refused}
use Rattle.outside.specs.Loading.{Refuses}
use Rattle.outside.specs.declared.stop.LoadError.{LoadError}
use Rattle.schema_files.specs.Answering.{OfSchemaFile}
use Rattle.schema_files.specs.Loaded.{IsSchemaText}
use Rattle.fault_lines.specs.Profiles.{named_line}

-- the first form that is missing or differs
abbrev pub form_line : FaultView → List ℕ
form_line (missing name) = named_line (codes "Missing") name
form_line (differs name) = named_line (codes "Differs") name

-- the line says why the schema is no profile
abbrev pub TellsProfile : Declared → List ℕ → Type 0
TellsProfile S line = (fault : FaultView) × IsAnswer S (Err fault) × (line ≡ form_line fault)

-- the profile that a schema is
abbrev pub MakesProfile : Declared → Result ProfileView LoadError → Type 0
MakesProfile S (Ok p) = IsAnswer S (Ok p)
MakesProfile S (Err fault) = Refuses (TellsProfile S) fault

-- ---- the text of a schema that has the protocol

-- the text is that of a schema which is this profile
pub record IsProfileText (text : List ℕ) (p : ProfileView) : Type 0 where
  pub schema : Declared
  pub read : IsSchemaText text schema
  pub is : IsAnswer schema (Ok p)

-- What is answered to a schema: it is no profile; or it is one, of which more is asked.
pub data OfProfile (Then : ProfileView → Answer → Type 0) (S : Declared) (a : Answer) : Type 0 where
  no_profile : (fault : FaultView) → IsAnswer S (Err fault) → a ≡ refused (form_line fault) → OfProfile Then S a
  profiled : (p : ProfileView) → IsAnswer S (Ok p) → Then p a → OfProfile Then S a

-- what is answered to a schema's file
abbrev pub OfProfileFile : (ProfileView → Answer → Type 0) → Files → List ℕ → Answer → Type 0
OfProfileFile Then files schema a = OfSchemaFile (codes "schema") (OfProfile Then) files schema a

-- the file has the text of a schema that is a profile, so that the work comes to what is asked of it
pub record HasProfile (files : Files) (schema : List ℕ) : Type 0 where
  pub text : List ℕ
  pub p : ProfileView
  pub there : HasFile files schema text
  pub is : IsProfileText text p

-- ---- laws

-- a schema is a profile in one way, or none for one cause
abbrev pub SchemasAreAnswered : Type 0
SchemasAreAnswered = (S : Declared) → IsSchema S → (told : Result ProfileView FaultView) × IsAnswer S told

abbrev pub SchemasHaveOneAnswer : Type 0
SchemasHaveOneAnswer = (S : Declared) (a b : Result ProfileView FaultView) → IsAnswer S a → IsAnswer S b → a ≡ b

-- what is answered has the forms of the protocol
abbrev pub AnswersAreProfiles : Type 0
AnswersAreProfiles = (S : Declared) (p : ProfileView) → IsSchema S → IsAnswer S (Ok p) → IsProfile p × (p.schema ≡ S)
