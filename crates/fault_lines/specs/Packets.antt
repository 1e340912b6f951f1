-- What is told where a link gives no packet: that the other end ended, or sent a length that no packet has. This project's own.
use Rattle.std.specs.Prelude.{ℕ, List, codes}
use Rattle.tl_base.specs.declared.packet.PacketCause.{PacketCause}
use Rattle.outside.specs.Answer.{unplaced_line}
use Rattle.outside.specs.Packets.{packet_words}

-- of bytes that begin with no packet
abbrev pub packet_line : PacketCause → List ℕ
packet_line cause = unplaced_line (codes "peer") (packet_words cause)
