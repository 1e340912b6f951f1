use Rattle.std.proofs.Common.{List, ℕ, subst}
use Rattle.session_commands.specs.Post.{OfBody, peer, shows}
use Rattle.outside.proofs.Growing.{did_none}
use Rattle.session_rooms.specs.Post.{TellsBody}
use Rattle.session_rooms.proofs.Posting.{can_body, reply_blamed, reply_shown}
use Rattle.session_rooms.proofs.post.tell_reply.Goals as goal

pub returns-in-Ok : goal.returns-in-Ok
returns-in-Ok g c = reply_shown c.args.profile.now c.args.number c.args.body.items _ _ _ c.in-Ok.line.items c.deref.result.now c.deref.ensures.value (subst (λ (b : List ℕ). OfBody c.args.profile.now c.args.number b (shows c.in-Ok.line.items)) c.from_vec.ensures c.in-Ok.ensures) c.print.ensures

pub returns-in-Err-Peer : goal.returns-in-Err-Peer
returns-in-Err-Peer g c = reply_blamed c.args.profile.now c.args.number c.args.body.items _ _ _ c.in-Err-Peer.line.items c.deref-in-Err-Peer.result.now c.deref-in-Err-Peer.ensures.value (subst (λ (b : List ℕ). OfBody c.args.profile.now c.args.number b (peer c.in-Err-Peer.line.items)) c.from_vec.ensures (rw c.in-Err-Peer.field-0-is at c.in-Err-Peer.ensures)) c.tell.ensures

pub returns : goal.returns
returns g c = did_none (TellsBody c.args.profile.now c.args.number c.args.body.items) _ (can_body c.args.profile.now c.args.number c.requires.sound c.args.body.items c.requires.bytes)
