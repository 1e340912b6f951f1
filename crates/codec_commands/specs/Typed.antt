-- What a command answers that takes a schema, one of its types and an input: what the input tells, or where and why schema, type or plan is refused.
-- This project's own.
use Rattle.std.specs.Prelude.{◌≡◌, ℕ, List, codes}
use Rattle.tl_base.specs.Contents.{Files}
use Rattle.tl_base.specs.Outside.{HasFile}
use Rattle.tl_schema.specs.Types.{Shape}
use Rattle.tl_schema.specs.Schemas.{Declared}
use Rattle.tl_schema.specs.AskedTypes.{IsTypeText}
use Rattle.schema_files.specs.Answering.{OfSchemaFile}
use Rattle.schema_files.specs.Causes.{TypeNameCause, PlanCause}
use Rattle.schema_files.specs.Loaded.{IsSchemaText, TypeNameRefused, HasPlan, PlanRefused}
use Rattle.schema_files.specs.Lines.{type_line, plan_line}
use Rattle.outside.specs.Answer.{Answer, refused}
use Rattle.outside.specs.Jobs.{Job, unlinked_job}
use Rattle.outside.specs.Kept.{KeepsUnread}

-- what is answered to the bytes of an input, of a type of the schema
abbrev pub ToInput : Type 1
ToInput = Declared → Shape → List ℕ → Answer → Type 0

-- the word is refused as a type, or the type that it is has no plan, or it has one, and then the input's file tells
pub data OfType (Tells : ToInput) (schema : Declared) (type input : List ℕ) (files : Files) (a : Answer) : Type 0 where
  no_type : (cause : TypeNameCause) → TypeNameRefused schema type cause → a ≡ refused (type_line cause) → OfType Tells schema type input files a
  no_plan : (s : Shape) (cause : PlanCause) → IsTypeText schema.program type s → PlanRefused schema s cause → a ≡ refused (plan_line cause) → OfType Tells schema type input files a
  typed : (s : Shape) (bytes : List ℕ) → IsTypeText schema.program type s → HasPlan schema s → HasFile files input bytes → Tells schema s bytes a → OfType Tells schema type input files a

-- the command's answer: the schema's text is refused, or the type of its schema tells
abbrev pub TypedAnswer : ToInput → Files → List ℕ → List ℕ → List ℕ → Answer → Type 0
TypedAnswer Tells files schema type input a = OfSchemaFile (codes "schema") (λ S. OfType Tells S type input files) files schema a

-- the word is one of the schema's types, and that has a plan
pub record HasPlannedType (schema : Declared) (type : List ℕ) : Type 0 where
  pub meant : Shape
  pub named : IsTypeText schema.program type meant
  pub planned : HasPlan schema meant

-- the work comes to the input: the text is a schema's, and the word one of its types, which has a plan
pub record ReachesInput (files : Files) (schema type : List ℕ) : Type 0 where
  pub text : List ℕ
  pub of : Declared
  pub there : HasFile files schema text
  pub accepted : IsSchemaText text of
  pub known : HasPlannedType of type

-- the command, of SCHEMA, TYPE and INPUT
abbrev pub typed_job : ToInput → List ℕ → List ℕ → List ℕ → Job
typed_job Tells schema type input = unlinked_job (λ v a. TypedAnswer Tells v.files schema type input a) ⊥ (λ v w. KeepsUnread (ReachesInput v.files schema type) v w)
