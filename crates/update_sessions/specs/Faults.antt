-- The faults of calls below as a session's, and how a session ends that runs out of memory. This project's own.
use Rattle.std.specs.Prelude.{Result, Ok, Err}
use Rattle.tl_base.specs.declared.packet.PacketFault.{PacketFault}
use Rattle.tl_base.specs.declared.packet.PacketFault.TheVariants as packets
use Rattle.wire_profile.specs.declared.wire_fault.WireFault.{WireFault}
use Rattle.tl_base.specs.declared.fault.Fault.{Fault}
use Rattle.tl_base.specs.declared.fault.Fault.TheVariants.{Refused, Memory}
use Rattle.box_client.specs.declared.fault.ClientFault.{ClientFault}
use Rattle.update_sessions.specs.declared.fault.SessionFault.{SessionFault}
use Rattle.update_sessions.specs.declared.fault.SessionFault.TheVariants.{Packet, Wire, Client, LinkFault}

-- a packet isn't read
abbrev pub of_packet : PacketFault → Fault SessionFault
of_packet packets.ReadFault = Refused LinkFault
of_packet packets.Memory = Memory
of_packet (packets.Refused cause) = Refused (Packet cause)

-- a packet is no message
abbrev pub of_wire : Fault WireFault → Fault SessionFault
of_wire (Refused cause) = Refused (Wire cause)
of_wire Memory = Memory

-- an answer is refused
abbrev pub of_client : Fault ClientFault → Fault SessionFault
of_client (Refused cause) = Refused (Client cause)
of_client Memory = Memory

-- a session that runs out of memory breaks off as one whose link fails
abbrev pub fault_as : Fault SessionFault → SessionFault
fault_as (Refused fault) = fault
fault_as Memory = LinkFault

abbrev pub end_as : {T : Type 0} → Result T (Fault SessionFault) → Result T SessionFault
end_as (Ok x) = Ok x
end_as (Err fault) = Err (fault_as fault)
