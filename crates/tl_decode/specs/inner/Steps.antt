-- Steps of decoding: what each is to read. This project's own.
use Rattle.std.specs.Prelude.{◌≡◌, ℕ, ◌<◌, List, [], length, Option, Some, None, Result, Ok, Err}
use Rattle.tl_types.specs.inner.Reading.{Spot, spot, Read}
use Rattle.tl_decode.specs.declared.fault.DecodeFault.{DecodeFault}
use Rattle.tl_decode.specs.declared.fault.DecodeFault.TheVariants.{Refused, ReadFault, Memory}

-- a step gave the fault that reading gives
abbrev pub FailsAs : {Y : Type 0} → DecodeFault → Read Y → Type 0
FailsAs (Refused place cause) read = read ≡ Err (place, cause)
FailsAs ReadFault read = Unit {0}
FailsAs Memory read = Unit {0}

-- What a step over a source returned, and where it left the source and the offset, is what reading gives.
abbrev pub ReadsAs : {X Y : Type 0} → (X → Y) → Option (List ℕ) → Option (List ℕ) → ℕ → ℕ → Result X DecodeFault → (Spot → Read Y) → Type 0
ReadsAs see None after p q r read = Unit {0}
ReadsAs see (Some bytes) after p q (Ok x) read = (rest : List ℕ) × (after ≡ Some rest) × (read (spot p bytes) ≡ Ok (see x, spot q rest))
ReadsAs see (Some bytes) after p q (Err e) read = FailsAs e (read (spot p bytes))

-- The same, where the input may have ended: nothing is returned exactly where no byte was left.
abbrev pub OrEnds : {X Y : Type 0} → (X → Y) → Option (List ℕ) → Option (List ℕ) → ℕ → ℕ → Result (Option X) DecodeFault → (Spot → Read Y) → Type 0
OrEnds see None after p q r read = Unit {0}
OrEnds see (Some bytes) after p q (Ok None) read = (bytes ≡ []) × (after ≡ Some []) × (q ≡ p)
OrEnds {X = X} see (Some bytes) after p q (Ok (Some x)) read = (0 < length bytes) × ReadsAs {X = X} see (Some bytes) after p q (Ok x) read
OrEnds see (Some bytes) after p q (Err (Refused place cause)) read = (0 < length bytes) × (read (spot p bytes) ≡ Err (place, cause))
OrEnds see (Some bytes) after p q (Err ReadFault) read = Unit {0}
OrEnds see (Some bytes) after p q (Err Memory) read = Unit {0}
