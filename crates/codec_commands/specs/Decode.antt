-- What `decode` answers: the line of the value that its input is, or where and why schema, type or input is refused. This project's own.
use Rattle.std.specs.Prelude.{◌≡◌, ℕ, ◌≤◌, List, ◌∷◌, ◌++◌, length, codes}
use Rattle.tl_base.specs.Contents.{Files}
use Rattle.tl_schema.specs.Types.{Shape}
use Rattle.tl_schema.specs.Schemas.{Declared}
use Rattle.tl_types.specs.Values.{ValueView, depth}
use Rattle.tl_types.specs.Spelling.{Spells}
use Rattle.tl_types.specs.Refusal.{Refused}
use Rattle.tl_types.specs.Offsets.{moved}
use Rattle.tl_types.specs.declared.cause.Cause.{Cause}
use Rattle.tl_types.specs.declared.value.TheConstants.{MAX_LEVELS}
use Rattle.codec_commands.specs.Typed.{TypedAnswer, typed_job}
use Rattle.outside.specs.Answer.{Answer, done, refused}
use Rattle.outside.specs.Jobs.{Job}
use Rattle.schema_files.specs.Lines.{line_text, input_line, cause_text}

-- The input is the spelling of one value of the type, or more bytes stand after such a spelling, or it is refused.
-- A place stops at 2^64 - 1.
pub data OfInput (schema : Declared) (s : Shape) (bytes : List ℕ) (a : Answer) : Type 0 where
  whole : (v : ValueView) → Spells schema s v bytes → depth v ≤ MAX_LEVELS → a ≡ done (line_text schema.decls s v) → OfInput schema s bytes a
  longer : (v : ValueView) (x rest : List ℕ) (b : ℕ) → bytes ≡ x ++ b ∷ rest → Spells schema s v x → depth v ≤ MAX_LEVELS
      → a ≡ refused (input_line (moved 0 (length x)) (codes "Trailing")) → OfInput schema s bytes a
  faulty : (at : ℕ) (why : Cause) → Refused schema MAX_LEVELS s bytes at why → a ≡ refused (input_line (moved 0 at) (cause_text why)) → OfInput schema s bytes a

-- decode's answer
abbrev pub DecodeAnswer : Files → List ℕ → List ℕ → List ℕ → Answer → Type 0
DecodeAnswer = TypedAnswer OfInput

-- `decode SCHEMA TYPE INPUT`
abbrev pub decode_job : List ℕ → List ℕ → List ℕ → Job
decode_job = typed_job OfInput
