-- What is made of schemas, types and inputs: the thing, or a refusal with its line. This project's own.
use Rattle.std.specs.Prelude.{◌≡◌, ℕ, List, [], ◌∷◌, Result, Ok, Err}
use Rattle.tl_schema.specs.Types.{Shape}
use Rattle.tl_schema.specs.Schemas.{Declared}
use Rattle.tl_schema.specs.AskedTypes.{IsTypeText}
use Rattle.tl_schema.specs.Seen.{shape}
use Rattle.tl_schema.specs.declared.schema.TypeRef.{TypeRef}
use Rattle.tl_plan.specs.Plans.{PlanView, answer}
use Rattle.tl_types.specs.Seen.{view}
use Rattle.tl_types.specs.declared.value.Value.{Value}
use Rattle.tl_types.specs.declared.misfit.FitFault.{FitFault}
use Rattle.tl_types.specs.declared.misfit.FitFault.TheVariants as fit
use Rattle.outside.specs.declared.stop.LoadError.{LoadError}
use Rattle.outside.specs.declared.stop.LoadError.TheVariants as load_error
use Rattle.outside.specs.Loading.{Refuses, RefusesAs, Gives}
use Rattle.schema_files.specs.Causes.{SchemaCause, TypeNameCause, PlanCause, JsonCause, Misfit}
use Rattle.schema_files.specs.Loaded.{IsSchemaText, SchemaRefused, TypeNameRefused, PlanRefused}
use Rattle.schema_files.specs.JsonInput.{FormRefused, IsForm, IsJsonOf, JsonRefused}
use Rattle.schema_files.specs.Lines.{schema_line, type_line, plan_line, json_line}

-- ---- schemas

-- the line says why the text is no schema's, by what its input is called
abbrev pub TellsSchema : List ℕ → List ℕ → List ℕ → Type 0
TellsSchema what text line = (cause : SchemaCause) × SchemaRefused text cause × (line ≡ schema_line what cause)

-- the schema of a text
abbrev pub ReadsSchema : List ℕ → List ℕ → Result Declared LoadError → Type 0
ReadsSchema what text result = Gives IsSchemaText (TellsSchema what) text result

-- ---- types

-- the line says why the word is no type
abbrev pub TellsType : Declared → List ℕ → List ℕ → Type 0
TellsType schema text line = (cause : TypeNameCause) × TypeNameRefused schema text cause × (line ≡ type_line cause)

-- the type that a word means
abbrev pub MeansType : Declared → List ℕ → Result TypeRef LoadError → Type 0
MeansType schema text (Ok type) = IsTypeText schema.program text (shape type)
MeansType schema text (Err fault) = Refuses (TellsType schema text) fault

-- ---- plans

-- the line says why the type has no plan
abbrev pub TellsPlan : Declared → Shape → List ℕ → Type 0
TellsPlan schema T line = (cause : PlanCause) × PlanRefused schema T cause × (line ≡ plan_line cause)

-- the plan of a type
abbrev pub PlansType : Declared → Shape → Result PlanView LoadError → Type 0
PlansType schema T (Ok p) = answer schema (T ∷ []) ≡ Ok p
PlansType schema T (Err fault) = Refuses (TellsPlan schema T) fault

-- ---- inputs of JSON

abbrev pub IsFormValue : Declared → Shape → List ℕ → Value → Type 0
IsFormValue schema T bytes value = IsForm schema T bytes (view value)

-- the line says why the bytes are the form of no value of the type
abbrev pub TellsForm : Declared → Shape → List ℕ → List ℕ → Type 0
TellsForm schema T bytes line = (cause : JsonCause) × FormRefused schema T bytes cause × (line ≡ json_line cause)

-- the value that a text is the form of
abbrev pub ReadsForm : Declared → Shape → List ℕ → Result Value LoadError → Type 0
ReadsForm schema T bytes result = Gives (IsFormValue schema T) (TellsForm schema T) bytes result

-- what is told of a value that doesn't fit; out of memory has no line
abbrev pub TellsUnfit : FitFault → LoadError → Type 0
TellsUnfit (fit.Misfit told) u = RefusesAs (json_line (Misfit told.path.items told.cause)) u
TellsUnfit fit.Memory u = u ≡ load_error.Memory

abbrev pub IsJsonValue : Declared → Shape → List ℕ → Value → Type 0
IsJsonValue schema T bytes value = IsJsonOf schema T bytes (view value)

-- the line says why the bytes are the JSON of no value of the type
abbrev pub TellsJson : Declared → Shape → List ℕ → List ℕ → Type 0
TellsJson schema T bytes line = (cause : JsonCause) × JsonRefused schema T bytes cause × (line ≡ json_line cause)

-- the value that a text is the JSON of
abbrev pub ReadsJson : Declared → Shape → List ℕ → Result Value LoadError → Type 0
ReadsJson schema T bytes result = Gives (IsJsonValue schema T) (TellsJson schema T) bytes result
