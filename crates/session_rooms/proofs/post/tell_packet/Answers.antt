use Rattle.session_rooms.proofs.Posting.{packet_blamed, packet_untold}
use Rattle.session_rooms.proofs.post.tell_packet.Goals as goal

pub returns-in-Peer : goal.returns-in-Peer
returns-in-Peer g c = packet_blamed c.args.cause c.in-Peer.line c.deref.result.now _ _ _ c.in-Peer.ensures c.deref.ensures.value c.tell.ensures

pub returns : goal.returns
returns g c = packet_untold c.args.cause _
