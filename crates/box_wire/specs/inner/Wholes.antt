-- The one value that bytes spell, as the message's fault tells it, and the one spelling of a value. This project's own.
use Rattle.std.specs.Prelude.{◌≡◌, ℕ, List, Option, Some, None, Result, Ok, Err}
use Rattle.tl_schema.specs.Types.{Shape}
use Rattle.tl_schema.specs.Schemas.{Declared}
use Rattle.tl_types.specs.Values.{ValueView}
use Rattle.tl_types.specs.Spelling.{Spells}
use Rattle.tl_types.specs.declared.value.Value.{Value}
use Rattle.tl_decode.specs.Wholes.{ReadsBytes}
use Rattle.tl_decode.specs.declared.whole.WholeCause.{WholeCause}
use Rattle.tl_decode.specs.declared.whole.WholeCause.TheVariants as whole
use Rattle.wire_profile.specs.declared.wire_fault.WireFault.{WireFault}
use Rattle.wire_profile.specs.declared.wire_fault.WireFault.TheVariants as wire
use Rattle.tl_base.specs.declared.fault.Fault.{Fault}
use Rattle.tl_base.specs.declared.fault.Fault.TheVariants.{Refused, Memory}
use Rattle.box_wire.specs.Answers.{IsOnly}

-- why bytes are no value, as a message's fault
abbrev pub as_wire_fault : Fault WholeCause → Fault WireFault
as_wire_fault (Refused (whole.Refused place cause)) = Refused (wire.Refused place cause)
as_wire_fault (Refused (whole.Trailing place)) = Refused (wire.Trailing place)
as_wire_fault Memory = Memory

-- The value that the bytes spell, or why they spell none.
abbrev pub ReadsValue : Declared → Shape → List ℕ → Result Value (Fault WireFault) → Type 0
ReadsValue S T bytes (Ok value) = ReadsBytes S T bytes (Ok value)
ReadsValue S T bytes (Err fault) = (e : Fault WholeCause) × ReadsBytes S T bytes (Err e) × (fault ≡ as_wire_fault e)

-- the bytes are the value's spelling, and it has no other
abbrev pub IsSpelling : Declared → Shape → ValueView → List ℕ → Type 0
IsSpelling S T v = IsOnly (Spells S T v)

-- the first cause, or else the message, out of memory aside
abbrev pub AnswersMessage : {M : Type 0} → Option WireFault → M → Result M (Fault WireFault) → Type 0
AnswersMessage (Some cause) m result = result ≡ Err (Refused cause)
AnswersMessage None m (Ok x) = x ≡ m
AnswersMessage None m (Err fault) = fault ≡ Memory
