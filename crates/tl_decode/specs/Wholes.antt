-- What reading bytes as one value answers: the value that all of them spell, or where and why they spell none. This project's own.
use Rattle.std.specs.Prelude.{◌≡◌, ℕ, ◌<◌, ◌≤◌, List, ◌++◌, length, Result, Ok, Err}
use Rattle.tl_base.specs.declared.fault.Fault.{Fault}
use Rattle.tl_base.specs.declared.fault.Fault.TheVariants as fault
use Rattle.tl_schema.specs.Types.{Shape}
use Rattle.tl_schema.specs.Schemas.{Declared}
use Rattle.tl_types.specs.Values.{ValueView, depth}
use Rattle.tl_types.specs.Seen.{view}
use Rattle.tl_types.specs.Spelling.{Spells}
use Rattle.tl_types.specs.Refusal as refusal
use Rattle.tl_types.specs.Offsets.{moved}
use Rattle.tl_types.specs.declared.value.Value.{Value}
use Rattle.tl_types.specs.declared.value.TheConstants.{MAX_LEVELS}
use Rattle.tl_decode.specs.declared.fault.DecodeFault.{DecodeFault}
use Rattle.tl_decode.specs.declared.fault.DecodeFault.TheVariants as decode
use Rattle.tl_decode.specs.declared.whole.WholeCause.{WholeCause}
use Rattle.tl_decode.specs.declared.whole.WholeCause.TheVariants as cause
use Rattle.tl_decode.specs.declared.whole.WholeFault.{WholeFault}
use Rattle.tl_decode.specs.declared.whole.WholeFault.TheVariants.{Refused, Trailing, ReadFault, Memory}

-- All the bytes spell the value; or they are refused; or they go on after a spelling. Out of memory and a failed read are free here.
abbrev pub ReadsWhole : Declared → Shape → List ℕ → Result Value WholeFault → Type 0
ReadsWhole schema T bytes (Ok value) = Spells schema T (view value) bytes × (depth (view value) ≤ MAX_LEVELS)
ReadsWhole schema T bytes (Err (Refused place why)) = (offset : ℕ) × refusal.Refused schema MAX_LEVELS T bytes offset why × (place ≡ moved 0 offset)
ReadsWhole schema T bytes (Err (Trailing place)) =
    (v : ValueView) × (x rest : List ℕ) × (bytes ≡ x ++ rest) × (0 < length rest) × Spells schema T v x × (depth v ≤ MAX_LEVELS) × (place ≡ moved 0 (length x))
ReadsWhole schema T bytes (Err ReadFault) = Unit {0}
ReadsWhole schema T bytes (Err Memory) = Unit {0}

-- why bytes in memory are no value, as those of a source
abbrev pub of_bytes : Fault WholeCause → WholeFault
of_bytes (fault.Refused (cause.Refused place why)) = Refused place why
of_bytes (fault.Refused (cause.Trailing place)) = Trailing place
of_bytes fault.Memory = Memory

-- likewise of bytes in memory, which are always read
abbrev pub ReadsBytes : Declared → Shape → List ℕ → Result Value (Fault WholeCause) → Type 0
ReadsBytes schema T bytes (Ok value) = ReadsWhole schema T bytes (Ok value)
ReadsBytes schema T bytes (Err f) = ReadsWhole schema T bytes (Err (of_bytes f))

-- why bytes are no value, where decoding from their start fails
abbrev pub whole_fault : DecodeFault → WholeFault
whole_fault (decode.Refused place why) = Refused place why
whole_fault decode.ReadFault = ReadFault
whole_fault decode.Memory = Memory
