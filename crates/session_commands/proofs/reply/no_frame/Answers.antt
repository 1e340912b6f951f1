use Rattle.std.proofs.Common.{codes}
use Rattle.fault_lines.specs.Messages.{wire_line}
use Rattle.session_commands.proofs.Replies.{peer_told}
use Rattle.session_commands.proofs.reply.no_frame.Goals as goal

pub returns-in-Refused : goal.returns-in-Refused
returns-in-Refused c = rw c.in-Refused.is (peer_told (wire_line (codes "peer") c.in-Refused.cause) c.wire_line.result c.of_peer.result c.wire_line.ensures c.of_peer.ensures)
