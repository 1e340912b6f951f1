-- What decoding answers where the input may have ended: nothing, a value, or why there is none. This project's own.
use Rattle.std.specs.Prelude.{◌≡◌, ℕ, ◌<◌, ◌≤◌, List, [], length, Option, Some, None, Result, Ok, Err}
use Rattle.tl_schema.specs.Types.{Shape}
use Rattle.tl_schema.specs.Types as type
use Rattle.tl_schema.specs.Schemas.{Declared}
use Rattle.tl_types.specs.Values.{ValueView}
use Rattle.tl_types.specs.Spelling.{Spells}
use Rattle.tl_types.specs.declared.value.Value.{Value}
use Rattle.tl_types.specs.declared.cause.Cause.{Cause}
use Rattle.tl_decode.specs.declared.fault.DecodeFault.{DecodeFault}
use Rattle.tl_decode.specs.declared.fault.DecodeFault.TheVariants.{Refused, ReadFault, Memory}
use Rattle.tl_decode.specs.Decoding.{GivesFault, GivesFew, GivesValue}

-- ---- types

-- no spelling of a value of the type is shorter than 4 bytes
abbrev pub TakesFour : Declared → Shape → Type 0
TakesFour schema T = (v : ValueView) (x : List ℕ) → Spells schema T v x → 4 ≤ length x

-- the type is a number, a string, a vector, a boxed type or a call, or opaque with 4 bytes at least
abbrev pub BeginsWithItem : Shape → Type 0
BeginsWithItem type.flag = ⊥
BeginsWithItem (type.bare i args) = ⊥
BeginsWithItem (type.opaque n) = 4 ≤ n
BeginsWithItem T = Unit {0}

abbrev pub EachItemTakesFour : Type 0
EachItemTakesFour = (schema : Declared) (T : Shape) → BeginsWithItem T → TakesFour schema T

-- ---- answers; out of memory and a failed read are free here

-- Nothing exactly where no byte is left; then nothing is taken.
abbrev pub GivesNone : List ℕ → Option (List ℕ) → ℕ → ℕ → Result (Option Value) DecodeFault → Type 0
GivesNone bytes after p q (Ok None) = (bytes ≡ []) × (after ≡ Some []) × (q ≡ p)
GivesNone bytes after p q (Ok (Some value)) = 0 < length bytes
GivesNone bytes after p q (Err (Refused place cause)) = 0 < length bytes
GivesNone bytes after p q (Err ReadFault) = Unit {0}
GivesNone bytes after p q (Err Memory) = Unit {0}

-- The value that is spelled, as `decode` gives it.
abbrev pub GivesSome : Result (Option Value) DecodeFault → Option (List ℕ) → ℕ → ℕ → ValueView → List ℕ → List ℕ → Type 0
GivesSome (Ok None) after p q v x rest = ⊥
GivesSome (Ok (Some value)) after p q v x rest = GivesValue (Ok value) after p q v x rest
GivesSome (Err e) after p q v x rest = GivesValue (Err e) after p q v x rest

-- The fault at this offset, for this cause.
abbrev pub RefusesFirst : Result (Option Value) DecodeFault → ℕ → Cause → Type 0
RefusesFirst (Ok first) offset cause = ⊥
RefusesFirst (Err e) offset cause = GivesFault (Err e) offset cause

-- The value, where one is given, has few nodes for the bytes that were taken.
abbrev pub GivesFewOrNone : Declared → Shape → List ℕ → Option (List ℕ) → Result (Option Value) DecodeFault → Type 0
GivesFewOrNone schema T bytes after (Ok None) = Unit {0}
GivesFewOrNone schema T bytes after (Ok (Some value)) = GivesFew schema T bytes after (Ok value)
GivesFewOrNone schema T bytes after (Err e) = Unit {0}
