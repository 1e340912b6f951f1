-- What `encode` answers: the spelling of the value that its input's JSON is, or where and why schema, type or input is refused. This project's own.
use Rattle.std.specs.Prelude.{◌≡◌, ℕ, ◌<◌, ◌≤◌, List, length, Some, None, Ok, Err, codes}
use Rattle.serde_json.specs.Data.{Data}
use Rattle.tl_base.specs.Contents.{Files}
use Rattle.tl_schema.specs.Types.{Shape}
use Rattle.tl_schema.specs.Schemas.{Declared}
use Rattle.tl_types.specs.Values.{ValueView, depth}
use Rattle.tl_types.specs.Spelling.{Spells}
use Rattle.tl_types.specs.Fitting as fitting
use Rattle.tl_types.specs.declared.misfit.MisfitCause.{MisfitCause}
use Rattle.tl_types.specs.declared.value.TheConstants.{MAX_LEVELS}
use Rattle.tl_show.specs.Reading.{read}
use Rattle.tl_show.specs.declared.fault.FormCause.{FormCause}
use Rattle.schema_files.specs.declared.json_input.TheConstants.{JSON_BYTES}
use Rattle.schema_files.specs.JsonInput.{IsJson, IsNoJson}
use Rattle.codec_commands.specs.Typed.{TypedAnswer, typed_job}
use Rattle.outside.specs.Answer.{Answer, done, refused}
use Rattle.outside.specs.Jobs.{Job}
use Rattle.schema_files.specs.Lines.{whole_input_line, form_text, misfit_text}

-- The input is too long, or no JSON; or its JSON is not of the form of the type's values, or of the form of one that doesn't fit, at the path and for the
-- cause that are told; or it is that of a value with this spelling.
pub data OfJson (schema : Declared) (s : Shape) (bytes : List ℕ) (a : Answer) : Type 0 where
  too_long : JSON_BYTES < length bytes → a ≡ refused (whole_input_line (codes "TooLong")) → OfJson schema s bytes a
  no_json : IsNoJson bytes → a ≡ refused (whole_input_line (codes "Json")) → OfJson schema s bytes a
  badly_formed : (d : Data) (path : List ℕ) (cause : FormCause) → IsJson bytes d → read schema.decls s d ≡ Err (path, cause)
      → a ≡ refused (whole_input_line (form_text path cause)) → OfJson schema s bytes a
  misfit : (d : Data) (v : ValueView) (path : List ℕ) (cause : MisfitCause) → IsJson bytes d → read schema.decls s d ≡ Ok v
      → fitting.misfit schema.decls MAX_LEVELS None s v ≡ Some (path, cause) → a ≡ refused (whole_input_line (misfit_text path cause)) → OfJson schema s bytes a
  spelled : (d : Data) (v : ValueView) (x : List ℕ) → IsJson bytes d → read schema.decls s d ≡ Ok v → Spells schema s v x → depth v ≤ MAX_LEVELS
      → a ≡ done x → OfJson schema s bytes a

-- encode's answer
abbrev pub EncodeAnswer : Files → List ℕ → List ℕ → List ℕ → Answer → Type 0
EncodeAnswer = TypedAnswer OfJson

-- `encode SCHEMA TYPE INPUT`
abbrev pub encode_job : List ℕ → List ℕ → List ℕ → Job
encode_job = typed_job OfJson
