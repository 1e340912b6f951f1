-- Packets: a length in four bytes, and so many bytes. This project's own.
use Rattle.std.specs.Prelude.{◌≡◌, ℕ, ◌+◌, ◌%◌, ◌<◌, ◌≤◌, ◌⊎◌, List, [], ◌++◌, length, Bool, true, false, Option, Some, Result, Ok, Err}
use Rattle.std.specs.Io.KnownBytes.{Consumes}
use Rattle.tl_numbers.specs.Numbers.{word}
use Rattle.tl_base.specs.declared.packet.TheConstants.{PACKET_BYTES}
use Rattle.tl_base.specs.declared.packet.PacketFault.{PacketFault}
use Rattle.tl_base.specs.declared.packet.PacketFault.TheVariants.{Refused, ReadFault, Memory}
use Rattle.tl_base.specs.declared.packet.PacketCause.TheVariants.{BadLength, Ended}
use Rattle.tl_base.specs.declared.source.TextFault.{TextFault}
use Rattle.tl_base.specs.declared.source.TextFault.TheVariants as text

-- how many bytes a packet may have: a multiple of 4, up to the limit
abbrev pub IsPacketLength : ℕ → Type 0
IsPacketLength n = (n % 4 ≡ 0) × (n ≤ PACKET_BYTES)

-- a packet of these bytes
abbrev pub packet : List ℕ → List ℕ
packet bytes = word (length bytes) ++ bytes

-- the bytes end before the packet does that begins with them
abbrev pub IsCutShort : List ℕ → Type 0
IsCutShort bytes = (length bytes < 4) ⊎ ((n : ℕ) × (rest : List ℕ) × IsPacketLength n × (bytes ≡ word n ++ rest) × (length rest < n))

-- no byte stands past the end of the packet that begins with them
abbrev pub IsWithinPacket : List ℕ → Type 0
IsWithinPacket bytes = (length bytes < 4) ⊎ ((n : ℕ) × (rest : List ℕ) × IsPacketLength n × (bytes ≡ word n ++ rest) × (length rest ≤ n))

-- What is taken of a source. True: a packet. False: there was no byte. A length that no packet may have is all that is taken. Ended: all bytes,
-- which end before the packet does. At another fault nothing past the packet was taken.
abbrev pub ReadsPacket : List ℕ → Option (List ℕ) → List ℕ → Result Bool PacketFault → Type 0
ReadsPacket bytes after into (Ok true) = Consumes (Some bytes) after (packet into)
ReadsPacket bytes after into (Ok false) = (bytes ≡ []) × (after ≡ Some [])
ReadsPacket bytes after into (Err (Refused (BadLength length))) = Consumes (Some bytes) after (word length)
ReadsPacket bytes after into (Err (Refused (Ended had))) = (length bytes ≡ had) × IsCutShort bytes × (after ≡ Some [])
ReadsPacket bytes after into (Err ReadFault) = (prefix : List ℕ) × Consumes (Some bytes) after prefix × IsCutShort prefix
ReadsPacket bytes after into (Err Memory) = (prefix : List ℕ) × Consumes (Some bytes) after prefix × IsWithinPacket prefix

-- What holds whether the source tells its bytes or not: `into` has a packet's length, and is empty after every other answer than true.
abbrev pub PacketInto : List ℕ → Result Bool PacketFault → Type 0
PacketInto into (Ok true) = IsPacketLength (length into)
PacketInto into (Ok false) = into ≡ []
PacketInto into (Err (Refused (BadLength length))) = (into ≡ []) × ¬ IsPacketLength length
PacketInto into (Err (Refused (Ended had))) = (into ≡ []) × (0 < had) × (had < 4 + PACKET_BYTES)
PacketInto into (Err ReadFault) = into ≡ []
PacketInto into (Err Memory) = into ≡ []

-- a fault while the bytes of a packet were taken, as a packet's fault
abbrev pub as_packet_fault : TextFault → PacketFault
as_packet_fault text.ReadFault = ReadFault
as_packet_fault text.Memory = Memory
