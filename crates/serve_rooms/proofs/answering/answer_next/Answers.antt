use Rattle.std.proofs.Common.{Some, None}
use Rattle.tl_base.specs.declared.host.Slot.TheVariants.{Link}
use Rattle.outside.specs.Packets.{TakesPacket, packet_view}
use Rattle.serve_rooms.specs.Acts.{beside}
use Rattle.serve_rooms.specs.Answering.{after_packet}
use Rattle.serve_rooms.specs.Doing.{Hosted}
use Rattle.serve_rooms.proofs.Doing.{did_host, did_stop_by, did_then}
use Rattle.serve_rooms.proofs.Answered.{can_follow}
use Rattle.serve_rooms.proofs.answering.answer_next.Goals as goal

pub returns-in-Ok : goal.returns-in-Ok
returns-in-Ok g c =
    let h = g.H.Host in
    let k = g.K.Keeper in
    let old = k.state c.args.store.now.keeper in
    did_then (Hosted (TakesPacket Link)) (after_packet c.args.profile.now c.args.store.now.server) (beside (h.state c.args.host.now) old) (beside (h.state c.take_packet.new.host) old) (beside (h.state c.answer_taken.new.host) (k.state c.answer_taken.new.store.keeper))
    (packet_view c.in-Ok.packet) _ (did_host (TakesPacket Link) _ _ old (Some (packet_view c.in-Ok.packet)) c.in-Ok.ensures) c.answer_taken.ensures

pub returns-in-Err : goal.returns-in-Err
returns-in-Err g c =
    let p = c.args.profile.now in
    let s = c.args.store.now.server in
    did_stop_by (Hosted (TakesPacket Link)) (after_packet p s) _ _ (can_follow p s c.requires.sound) (did_host (TakesPacket Link) _ _ (g.K.Keeper.state c.args.store.now.keeper) None c.in-Err.ensures)
