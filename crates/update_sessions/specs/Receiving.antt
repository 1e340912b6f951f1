-- What comes next over a link: a message, its end, or why none. This project's own.
use Rattle.std.specs.Prelude.{◌≡◌, ℕ, List, [], ◌++◌, length, Option, Some, None, Result, Ok, Err}
use Rattle.tl_base.specs.Packets.{IsPacketLength, packet}
use Rattle.wire_profile.specs.declared.wire_fault.WireFault.{WireFault}
use Rattle.update_sessions.specs.declared.fault.SessionFault.{SessionFault}
use Rattle.update_sessions.specs.declared.fault.SessionFault.TheVariants.{Packet, Wire, Client, TooManyFrames, LinkFault}
use Rattle.update_sessions.specs.Packed.{NoPacket}

-- a packet is refused for this cause, and this is left after it
pub record RefusedPacket (Refused : List ℕ → WireFault → Type 0) (bytes : List ℕ) (fault : WireFault) : Type 0 where
  pub body : List ℕ
  pub rest : List ℕ
  pub fits : IsPacketLength (length body)
  pub parts : bytes ≡ packet body ++ rest
  pub refused : Refused body fault

-- the packet of a message comes first
pub record ComesFirst {M : Type 0} (Means : M → List ℕ → Type 0) (m : M) (bytes rest : List ℕ) : Type 0 where
  pub body : List ℕ
  pub fits : IsPacketLength (length body)
  pub parts : bytes ≡ packet body ++ rest
  pub means : Means m body

-- a message with what is left after it; nothing, where the bytes have ended; or why there is no message
abbrev pub Receives : {M : Type 0} → (M → List ℕ → Type 0) → (List ℕ → WireFault → Type 0) → List ℕ → Option (List ℕ) → Result (Option M) SessionFault → Type 0
Receives Means Refused bytes after (Ok (Some m)) = (rest : List ℕ) × ComesFirst Means m bytes rest × (after ≡ Some rest)
Receives Means Refused bytes after (Ok None) = bytes ≡ []
Receives Means Refused bytes after (Err (Packet fault)) = NoPacket bytes fault
Receives Means Refused bytes after (Err (Wire fault)) = RefusedPacket Refused bytes fault
Receives Means Refused bytes after (Err (Client fault)) = ⊥
Receives Means Refused bytes after (Err TooManyFrames) = ⊥
Receives Means Refused bytes after (Err LinkFault) = Unit {0}
