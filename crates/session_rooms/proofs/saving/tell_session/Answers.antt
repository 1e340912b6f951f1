use Rattle.session_rooms.proofs.LeftClients.{link_told, none_told, peer_told}
use Rattle.session_rooms.proofs.saving.tell_session.Goals as goal

pub returns-in-Peer : goal.returns-in-Peer
returns-in-Peer g c = peer_told _ _ _ c.args.fault c.in-Peer.line c.deref.result.now c.in-Peer.ensures.stop c.deref.ensures.value c.tell.ensures

pub returns-in-LinkFault : goal.returns-in-LinkFault
returns-in-LinkFault g c = link_told _ _ _ c.args.fault c.in-LinkFault.ensures.stop c.tell-in-LinkFault.ensures

pub returns : goal.returns
returns g c = none_told c.args.fault _
