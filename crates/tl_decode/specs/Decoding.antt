-- What decoding answers: the value that bytes spell, or the offset and the cause at which they are refused. This project's own.
use Rattle.std.specs.Prelude.{◌≡◌, ℕ, List, ◌++◌, length, Option, Some, Result, Ok, Err}
use Rattle.tl_schema.specs.Types.{Shape}
use Rattle.tl_schema.specs.Schemas.{Declared}
use Rattle.tl_types.specs.Values.{ValueView}
use Rattle.tl_types.specs.Seen.{view}
use Rattle.tl_types.specs.Offsets.{moved}
use Rattle.tl_types.specs.declared.value.Value.{Value}
use Rattle.tl_types.specs.declared.cause.Cause.{Cause}
use Rattle.tl_decode.specs.Sizes.{HasFewNodes}
use Rattle.tl_decode.specs.declared.fault.DecodeFault.{DecodeFault}
use Rattle.tl_decode.specs.declared.fault.DecodeFault.TheVariants.{Refused, ReadFault, Memory}

-- The value that is spelled, the bytes that follow are left, and the offset rose by the number of bytes that were taken. Out of memory and a failed
-- read are free here.
abbrev pub GivesValue : Result Value DecodeFault → Option (List ℕ) → ℕ → ℕ → ValueView → List ℕ → List ℕ → Type 0
GivesValue (Ok value) after p q v x rest = (view value ≡ v) × (after ≡ Some rest) × (q ≡ moved p (length x))
GivesValue (Err (Refused place cause)) after p q v x rest = ⊥
GivesValue (Err ReadFault) after p q v x rest = Unit {0}
GivesValue (Err Memory) after p q v x rest = Unit {0}

-- The fault at this offset, for this cause. Out of memory and a failed read are free here.
abbrev pub GivesFault : Result Value DecodeFault → ℕ → Cause → Type 0
GivesFault (Ok value) offset cause = ⊥
GivesFault (Err (Refused place why)) offset cause = (place ≡ offset) × (why ≡ cause)
GivesFault (Err ReadFault) offset cause = Unit {0}
GivesFault (Err Memory) offset cause = Unit {0}

-- The value has few nodes for the bytes x that were taken.
abbrev pub GivesFew : Declared → Shape → List ℕ → Option (List ℕ) → Result Value DecodeFault → Type 0
GivesFew schema T bytes after (Ok value) = (x rest : List ℕ) → bytes ≡ x ++ rest → after ≡ Some rest → HasFewNodes schema T (length x) (view value)
GivesFew schema T bytes after (Err e) = Unit {0}
