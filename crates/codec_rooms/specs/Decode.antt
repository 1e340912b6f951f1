-- What `decode` does. This project's own.
use Rattle.std.specs.Prelude.{◌≡◌, ◌≢◌, ℕ, ◌<◌, ◌≤◌, List, [], ◌∷◌, ◌++◌, length, Bool, true, false, Option, Some, None, Result, Ok, Err, codes}
use Rattle.tl_base.specs.declared.host.Slot.TheVariants.{Input}
use Rattle.tl_schema.specs.Types.{Shape}
use Rattle.tl_schema.specs.Schemas.{Declared}
use Rattle.tl_types.specs.Offsets.{moved}
use Rattle.tl_types.specs.Refusal as refusal
use Rattle.tl_types.specs.Seen.{view}
use Rattle.tl_types.specs.Spelling.{Spells}
use Rattle.tl_types.specs.Values.{ValueView, depth}
use Rattle.tl_types.specs.declared.cause.Cause.{Cause}
use Rattle.tl_types.specs.declared.cause.Cause.TheVariants.{Truncated}
use Rattle.tl_types.specs.declared.value.Value.{Value}
use Rattle.tl_types.specs.declared.value.TheConstants.{MAX_LEVELS}
use Rattle.tl_decode.specs.declared.whole.WholeFault.{WholeFault}
use Rattle.tl_decode.specs.declared.whole.WholeFault.TheVariants.{Refused, Trailing, ReadFault, Memory}
use Rattle.outside.specs.Answer.{Answer, done, refused}
use Rattle.outside.specs.declared.status.Status.{Status}
use Rattle.outside.specs.Events.{Event, opened, took, ended, read_failed}
use Rattle.outside.specs.Printing.{Prints, Unread}
use Rattle.outside.specs.Steps.{Step, Turn, again, leave, Calls, Loops, Then}
use Rattle.schema_files.specs.Lines.{cause_text, input_line, line_text}
use Rattle.codec_rooms.specs.Typed.{OfCommand, OfSchema, OfType, OfWord}

-- the value that an input is, or why it is none
abbrev pub Verdict : Type 0
Verdict = Result ValueView WholeFault

-- ---- what the bytes say that were taken so far

-- it is open what the input is: the bytes are cut off, or they spell a value
pub data IsOpen (schema : Declared) (T : Shape) (bytes : List ℕ) : Type 0 where
  cut : (offset : ℕ) → refusal.Refused schema MAX_LEVELS T bytes offset Truncated → IsOpen schema T bytes
  whole : (v : ValueView) → Spells schema T v bytes → depth v ≤ MAX_LEVELS → IsOpen schema T bytes

-- the input is no value, whatever comes: it is refused, or it goes on after a value
pub data Decides (schema : Declared) (T : Shape) (bytes : List ℕ) : WholeFault → Type 0 where
  faulty : (offset : ℕ) (cause : Cause) → cause ≢ Truncated → refusal.Refused schema MAX_LEVELS T bytes offset cause → Decides schema T bytes (Refused (moved 0 offset) cause)
  longer : (v : ValueView) (x rest : List ℕ) → bytes ≡ x ++ rest → 0 < length rest → Spells schema T v x → depth v ≤ MAX_LEVELS → Decides schema T bytes (Trailing (moved 0 (length x)))

-- what an input of these bytes is
pub data HasVerdict (schema : Declared) (T : Shape) (bytes : List ℕ) : Verdict → Type 0 where
  cut_off : (offset : ℕ) → refusal.Refused schema MAX_LEVELS T bytes offset Truncated → HasVerdict schema T bytes (Err (Refused (moved 0 offset) Truncated))
  is_value : (v : ValueView) → Spells schema T v bytes → depth v ≤ MAX_LEVELS → HasVerdict schema T bytes (Ok v)

-- ---- reading

-- a read more, after these bytes: a piece after which it is open still, or one that decides; the end; or it failed
pub data ReadsOn (schema : Declared) (T : Shape) (bytes : List ℕ) (t : List Event) : Turn (List ℕ) Verdict → Type 0 where
  more : (piece : List ℕ) → t ≡ took Input piece ∷ [] → IsOpen schema T (bytes ++ piece) → ReadsOn schema T bytes t (again (bytes ++ piece))
  decided : (piece : List ℕ) (why : WholeFault) → t ≡ took Input piece ∷ [] → Decides schema T (bytes ++ piece) why → ReadsOn schema T bytes t (leave (Err why))
  at_end : (r : Verdict) → t ≡ ended Input ∷ [] → HasVerdict schema T bytes r → ReadsOn schema T bytes t (leave r)
  failed : t ≡ read_failed Input ∷ [] → ReadsOn schema T bytes t (leave (Err ReadFault))

-- the input is read piece by piece, while it is open what it is, and no further
pub data ReadsValue (schema : Declared) (T : Shape) (t : List Event) (r : Verdict) : Type 0 where
  at_once : (why : WholeFault) → t ≡ [] → Decides schema T [] why → r ≡ Err why → ReadsValue schema T t r
  reads : IsOpen schema T [] → Loops (ReadsOn schema T) [] t r → ReadsValue schema T t r

-- ---- the command

-- what is answered: the line of the value, or the line that tells where and why it is none; of an input that can't be read there is no answer
abbrev pub answer_of : Declared → Shape → Verdict → Option Answer
answer_of schema T (Ok v) = Some (done (line_text schema.decls T v))
answer_of schema T (Err (Refused place cause)) = Some (refused (input_line place (cause_text cause)))
answer_of schema T (Err (Trailing place)) = Some (refused (input_line place (codes "Trailing")))
answer_of schema T (Err ReadFault) = None
answer_of schema T (Err Memory) = None

abbrev pub printed : Option Answer → Step Status
printed (Some a) = Prints a
printed None = Unread

abbrev pub after_reading : Declared → Shape → Verdict → Step Status
after_reading schema T r = printed (answer_of schema T r)

abbrev pub after_opening : Declared → Shape → Bool → Step Status
after_opening schema T true = Then (ReadsValue schema T) (after_reading schema T)
after_opening schema T false = Unread

-- what follows of a type: the input's file is opened, and read
abbrev pub OfBytes : List ℕ → OfType
OfBytes input schema T = Then (Calls (opened Input input)) (after_opening schema T)

abbrev pub decodes_by : List ℕ → List ℕ → OfSchema
decodes_by type input = OfWord (OfBytes input) type

-- `decode SCHEMA TYPE INPUT`
abbrev pub decodes : List ℕ → List ℕ → List ℕ → Step Status
decodes schema type input = OfCommand (decodes_by type input) schema

-- ---- what calls answer

-- the verdict; none where memory ran out
abbrev pub verdict : Result Value WholeFault → Option Verdict
verdict (Ok value) = Some (Ok (view value))
verdict (Err (Refused place cause)) = Some (Err (Refused place cause))
verdict (Err (Trailing place)) = Some (Err (Trailing place))
verdict (Err ReadFault) = Some (Err ReadFault)
verdict (Err Memory) = None
