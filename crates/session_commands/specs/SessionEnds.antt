-- What is told of a session that fails. This project's own.
use Rattle.std.specs.Prelude.{◌≡◌, ℕ, List, Option, Some, None, codes}
use Rattle.update_sessions.specs.declared.fault.SessionFault.{SessionFault}
use Rattle.update_sessions.specs.declared.fault.SessionFault.TheVariants as session
use Rattle.outside.specs.Answer.{unplaced_line}
use Rattle.outside.specs.Loading.{PeerAs}
use Rattle.outside.specs.declared.stop.Stop.{Stop}
use Rattle.outside.specs.declared.stop.Stop.TheVariants as stop
use Rattle.fault_lines.specs.Answers.{answer_line}
use Rattle.fault_lines.specs.Messages.{wire_line}
use Rattle.fault_lines.specs.Packets.{packet_line}
use Rattle.session_commands.specs.Post.{IsWordLong}

abbrev pub many_frames_line : List ℕ
many_frames_line = unplaced_line (codes "peer") (codes "TooManyFrames")

-- of what the other end did wrong; a fault of the link has none
abbrev pub session_line : SessionFault → Option (List ℕ)
session_line (session.Packet fault) = Some (packet_line fault)
session_line (session.Wire fault) = Some (wire_line (codes "peer") fault)
session_line (session.Client fault) = Some (answer_line fault)
session_line session.TooManyFrames = Some many_frames_line
session_line session.LinkFault = None

-- a length that no packet has is one of four bytes
abbrev pub IsShort : SessionFault → Type 0
IsShort (session.Packet fault) = IsWordLong fault
IsShort (session.Wire fault) = Unit {0}
IsShort (session.Client fault) = Unit {0}
IsShort session.TooManyFrames = Unit {0}
IsShort session.LinkFault = Unit {0}

-- the stop of a session that fails
abbrev pub TellsSession : SessionFault → Stop → Type 0
TellsSession (session.Packet fault) s = PeerAs (packet_line fault) s
TellsSession (session.Wire fault) s = PeerAs (wire_line (codes "peer") fault) s
TellsSession (session.Client fault) s = PeerAs (answer_line fault) s
TellsSession session.TooManyFrames s = PeerAs many_frames_line s
TellsSession session.LinkFault s = s ≡ stop.LinkFault
