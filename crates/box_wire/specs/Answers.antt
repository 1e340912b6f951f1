-- What the calls answer. Out of memory is free here. This project's own.
use Rattle.std.specs.Prelude.{◌≡◌, ◌⊎◌, ℕ, ◌<◌, ◌≤◌, List, length, Result, Ok, Err, IfOk, IfErr}
use Rattle.box_events.specs.declared.limits.TheConstants.{MAX_FRAME_BYTES}
use Rattle.wire_profile.specs.declared.wire_fault.WireFault.{WireFault}
use Rattle.box_wire.specs.declared.fault.SpellFault.{SpellFault}
use Rattle.box_wire.specs.declared.fault.SpellFault.TheVariants.{TooLong, Memory}
use Rattle.tl_base.specs.declared.fault.Fault.{Fault}
use Rattle.tl_base.specs.declared.fault.Fault.TheVariants as fault

-- ---- spelling

-- the spelling b, or its length where it is too long
abbrev pub GivesSpelling : List ℕ → Result (List ℕ) SpellFault → Type 0
GivesSpelling b (Ok bytes) = (bytes ≡ b) × (length b ≤ MAX_FRAME_BYTES)
GivesSpelling b (Err (TooLong count)) = (count ≡ length b) × (MAX_FRAME_BYTES < length b)
GivesSpelling b (Err Memory) = Unit {0}

-- what is given is a message's spelling, and no other bytes are
pub record Spelled (Framed : List ℕ → Type 0) (result : Result (List ℕ) SpellFault) : Type 0 where
  pub given : (result ≡ Err Memory) ⊎ ((b : List ℕ) × Framed b × GivesSpelling b result)
  pub each : (b : List ℕ) → Framed b → GivesSpelling b result

-- the bytes are a message's spelling, and it has no other
abbrev pub IsOnly : (List ℕ → Type 0) → List ℕ → Type 0
IsOnly Framed bytes = Framed bytes × ((b : List ℕ) → Framed b → bytes ≡ b)

-- ---- reading

-- a refusal is so for its cause
abbrev pub HasCause : {C : Type 0} → (C → Type 0) → Fault C → Type 0
HasCause IsCause (fault.Refused cause) = IsCause cause
HasCause IsCause fault.Memory = Unit {0}

-- Messages that are some kind's, what the bytes mean, and why they mean none.
pub record Reads {M : Type 0} (Is : M → Type 0) (Means : M → Type 0) (Refused : WireFault → Type 0) (result : Result M (Fault WireFault)) : Type 0 where
  -- what is given is meant
  pub given : IfOk result (λ m. Is m × Means m)
  -- what is refused is so for this cause
  pub told : IfErr result (HasCause Refused)
  -- what is meant is given
  pub meant : (m : M) → Is m → Means m → (result ≡ Ok m) ⊎ (result ≡ Err fault.Memory)
  -- each cause is told
  pub refused : (cause : WireFault) → Refused cause → (result ≡ Err (fault.Refused cause)) ⊎ (result ≡ Err fault.Memory)
