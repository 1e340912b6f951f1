-- Pools of packets. This project's own.
use Rattle.std.specs.Prelude.{◌≡◌, ℕ, ◌*◌, ◌<◌, ◌≤◌, List, ◌++◌, length, Result, Ok, Err}
use Rattle.box_events.specs.declared.limits.TheConstants.{MAX_FRAME_BYTES}
use Rattle.box_world.specs.declared.fault.StepFault.{StepFault}
use Rattle.tl_base.specs.declared.fault.Fault.{Fault}
use Rattle.box_world.specs.declared.fault.StepFault.TheVariants.{NoClient, NoPacket, WrongEnd, PoolFull}
use Rattle.tl_base.specs.declared.fault.Fault.TheVariants.{Refused, Memory}
use Rattle.update_world.specs.declared.limits.TheConstants.{MAX_POOL_BYTES}
use Rattle.update_world.specs.declared.sent.SentPacket.{SentPacket}
use Rattle.update_world.specs.Shown.{bytes_of}

-- a packet has 8 bytes at least, and no more than a frame may have
abbrev pub IsPacket : SentPacket → Type 0
IsPacket s = (8 ≤ length s.bytes) × (length s.bytes ≤ MAX_FRAME_BYTES)

-- the bytes are counted, and are not too many
pub record IsPool (ss : List SentPacket) (bytes : ℕ) : Type 0 where
  pub sum : bytes ≡ bytes_of ss
  pub most : bytes ≤ MAX_POOL_BYTES
  pub each : 8 * length ss ≤ bytes

-- What comes of putting packets into a pool, all or none of them: they stand after the others, from the number that is answered; there would
-- be too many bytes; or there is no memory.
abbrev pub Sends : List SentPacket → List SentPacket → Result ℕ (Fault StepFault) → List SentPacket → Type 0
Sends old more (Ok first) new = (first ≡ length old) × (new ≡ old ++ more) × (bytes_of new ≤ MAX_POOL_BYTES)
Sends old more (Err (Refused (NoClient n))) new = ⊥
Sends old more (Err (Refused (NoPacket n))) new = ⊥
Sends old more (Err (Refused (WrongEnd n))) new = ⊥
Sends old more (Err (Refused (PoolFull bytes))) new = (bytes ≡ bytes_of (old ++ more)) × (MAX_POOL_BYTES < bytes)
Sends old more (Err Memory) new = Unit {0}
