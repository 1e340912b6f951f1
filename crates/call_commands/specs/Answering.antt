-- What the parts of `calls` answer. This project's own.
use Rattle.std.specs.Prelude.{◌≡◌, ℕ, ◌<◌, ◌^◌, List, ◌∷◌, ◌++◌, Option, Some, None, Result, Ok, Err, Vec, codes, decimal}
use Rattle.std.specs.declared.alloc.Global.{Global}
use Rattle.tl_schema.specs.Types.{Shape}
use Rattle.tl_schema.specs.Schemas.{Declared}
use Rattle.tl_schema.specs.Seen.{shape}
use Rattle.tl_schema.specs.declared.schema.TypeRef.{TypeRef}
use Rattle.tl_types.specs.Values.{ValueView}
use Rattle.tl_calls.specs.Results.{result_type}
use Rattle.tl_calls.specs.Calling.{CallsView, StandsFor, open_at}
use Rattle.tl_calls.specs.Events.{Log, Logged}
use Rattle.outside.specs.declared.stop.LoadError.{LoadError}
use Rattle.outside.specs.declared.stop.LoadError.TheVariants as load_error
use Rattle.outside.specs.Loading.{Refuses, RefusesAs}
use Rattle.schema_files.specs.Lines.{input_line}
use Rattle.call_commands.specs.CallReports.{Tells, ContentRefused}

-- ---- one packet

-- the open call with the number is answered in this type
abbrev pub IsAnsweredIn : Declared → CallsView → ℕ → Shape → Type 0
IsAnsweredIn schema c n T = (call : ValueView) × (open_at c n ≡ Some call) × (T ≡ result_type schema.decls call)

-- the type in which it is, or none where no call with the number is open
abbrev pub AnsweredIn : Declared → CallsView → ℕ → Option TypeRef → Type 0
AnsweredIn schema c n (Some of) = IsAnsweredIn schema c n (shape of)
AnsweredIn schema c n None = open_at c n ≡ None

-- the line says at which offset of the input, and why, there is such a refusal
abbrev pub SaysRefused : (ℕ → List ℕ → Type 0) → List ℕ → Type 0
SaysRefused Refused line = (place : ℕ) × (why : List ℕ) × Refused place why × (line ≡ input_line place why)

-- A packet of this content, at this offset, was told: its line, and the calls stand for the events with it; or it is refused after the events before.
-- Out of memory is free.
abbrev pub TellsPacket : Declared → CallsView → CallsView → ℕ → List ℕ → Result (Vec ℕ Global) LoadError → Type 0
TellsPacket schema old new at content (Ok line) = (past : Log) → StandsFor schema old past → (e : Logged) × Tells schema past content e line.items × StandsFor schema new (e ∷ past)
TellsPacket schema old new at content (Err fault) = Refuses (λ line. (past : Log) → StandsFor schema old past → SaysRefused (ContentRefused schema past at content) line) fault
