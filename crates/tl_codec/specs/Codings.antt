-- What is made of a schema's text, of a type's name, of bytes and of JSON: what the program writes, or the line with which it refuses.
use Rattle.std.specs.Prelude.{◌≡◌, ℕ, ◌<◌, ◌≤◌, List, ◌++◌, length, codes, Result, Vec}
use Rattle.std.specs.declared.alloc.Global.{Global}
use Rattle.tl_base.specs.declared.fault.Fault.{Fault}
use Rattle.tl_base.specs.declared.fault.Fault.TheVariants as fault
use Rattle.tl_schema.specs.Types.{Shape}
use Rattle.tl_schema.specs.Schemas.{Declared}
use Rattle.tl_types.specs.Values.{ValueView, depth}
use Rattle.tl_types.specs.Spelling.{Spells}
use Rattle.tl_types.specs.Refusal.{Refused}
use Rattle.tl_types.specs.Offsets.{moved}
use Rattle.tl_types.specs.declared.cause.Cause.{Cause}
use Rattle.tl_types.specs.declared.value.TheConstants.{MAX_LEVELS}
use Rattle.tl_decode.specs.declared.whole.WholeCause.{WholeCause}
use Rattle.tl_decode.specs.declared.whole.WholeCause.TheVariants as whole
use Rattle.outside.specs.declared.stop.LoadError.{LoadError}
use Rattle.outside.specs.declared.stop.LoadError.TheVariants as load_error
use Rattle.outside.specs.Loading.{RefusesAs, Gives}
use Rattle.schema_files.specs.JsonInput.{IsForm}
use Rattle.schema_files.specs.Lines.{line_text, input_line, cause_text}
use Rattle.schema_files.specs.Parts.{TellsJson}

-- ---- bytes

-- what is told of bytes that are no value
abbrev pub TellsFault : Fault WholeCause → LoadError → Type 0
TellsFault (fault.Refused (whole.Refused place cause)) u = RefusesAs (input_line place (cause_text cause)) u
TellsFault (fault.Refused (whole.Trailing place)) u = RefusesAs (input_line place (codes "Trailing")) u
TellsFault fault.Memory u = u ≡ load_error.Memory

-- it is the line of the value that all of the bytes spell
abbrev pub IsLine : Declared → Shape → List ℕ → List ℕ → Type 0
IsLine schema T bytes line = (v : ValueView) × Spells schema T v bytes × (depth v ≤ MAX_LEVELS) × (line ≡ line_text schema.decls T v)

-- the line says where and why the bytes spell no value, or where they go on after one
pub data TellsBytes (schema : Declared) (T : Shape) (bytes line : List ℕ) : Type 0 where
  longer : (v : ValueView) (x rest : List ℕ) → bytes ≡ x ++ rest → 0 < length rest → Spells schema T v x → depth v ≤ MAX_LEVELS → line ≡ input_line (moved 0 (length x)) (codes "Trailing") → TellsBytes schema T bytes line
  faulty : (at : ℕ) (why : Cause) → Refused schema MAX_LEVELS T bytes at why → line ≡ input_line (moved 0 at) (cause_text why) → TellsBytes schema T bytes line

abbrev pub Made : Type 0
Made = Result (Vec ℕ Global) LoadError

abbrev pub Decodes : Declared → Shape → List ℕ → Made → Type 0
Decodes schema T bytes result = Gives (λ given out. IsLine schema T given out.items) (TellsBytes schema T) bytes result

-- ---- JSON

-- they are the spelling of the value that the text is the JSON of
abbrev pub IsSpelling : Declared → Shape → List ℕ → List ℕ → Type 0
IsSpelling schema T text out = (v : ValueView) × IsForm schema T text v × Spells schema T v out × (depth v ≤ MAX_LEVELS)

abbrev pub Encodes : Declared → Shape → List ℕ → Made → Type 0
Encodes schema T text result = Gives (λ given out. IsSpelling schema T given out.items) (TellsJson schema T) text result
