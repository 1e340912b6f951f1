use Rattle.session_commands.specs.Lines.{wrong_reply_line}
use Rattle.session_commands.proofs.Replies.{peer_told}
use Rattle.session_commands.proofs.reply.wrong_reply.Goals as goal

pub returns : goal.returns
returns c = peer_told wrong_reply_line c.unplaced_line.result c.of_peer.result c.unplaced_line.ensures c.of_peer.ensures
