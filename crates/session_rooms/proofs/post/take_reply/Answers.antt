use Rattle.std.proofs.Common.{ap}
use Rattle.std.proofs.lemmas.Result.{err_from_is_err_and}
use Rattle.outside.specs.Packets.{packet_view, whole}
use Rattle.outside.specs.Packets as packets
use Rattle.tl_base.specs.declared.host.Slot.TheVariants.{Link}
use Rattle.outside.specs.Begun.{to_link}
use Rattle.outside.proofs.Growing.{did_any, did_more, did_stop_by, did_then_at}
use Rattle.outside.proofs.TakenPackets.{may_packet}
use Rattle.session_rooms.specs.Post.{after_packet}
use Rattle.session_rooms.proofs.Posting.{can_reply, packet_are}
use Rattle.session_rooms.proofs.post.take_reply.Goals as goal

pub returns-in_err-body : goal.returns-in_err-body
returns-in_err-body g c =
    let q = err_from_is_err_and c.from_residual.result c.from_residual.ensures.1 in
    rw q.1 (did_stop_by _ (after_packet c.args.profile.now c.args.number) _ _ (can_reply c.args.profile.now c.args.number c.requires.sound) (did_more _ _ _ _ c.in_err-body.ensures))

pub returns-in-Whole : goal.returns-in-Whole
returns-in-Whole g c = did_then_at _ (after_packet c.args.profile.now c.args.number) _ _ _ (packet_view c.in_ok-body.field-0) (whole c.in-Whole.body.items) _ (ap packet_view c.in-Whole.is) (may_packet Link to_link) (did_any _ _ _ _ c.in_ok-body.ensures) c.tell_reply.ensures

pub returns-in-None : goal.returns-in-None
returns-in-None g c = did_then_at _ (after_packet c.args.profile.now c.args.number) _ _ _ (packet_view c.in_ok-body.field-0) packets.none _ (ap packet_view c.in-None.is) (may_packet Link to_link) (did_any _ _ _ _ c.in_ok-body.ensures) c.tell_packet.ensures

pub returns-in-Wrong : goal.returns-in-Wrong
returns-in-Wrong g c = did_then_at _ (after_packet c.args.profile.now c.args.number) _ _ _ (packet_view c.in_ok-body.field-0) (packets.wrong c.in-Wrong.cause) _ (ap packet_view c.in-Wrong.is) (may_packet Link to_link) (did_any _ _ _ _ c.in_ok-body.ensures) c.tell_packet-in-Wrong.ensures

pub returns-in-Broken : goal.returns-in-Broken
returns-in-Broken g c = did_then_at _ (after_packet c.args.profile.now c.args.number) _ _ _ (packet_view c.in_ok-body.field-0) packets.broken _ (ap packet_view c.in-Broken.is) (may_packet Link to_link) (did_any _ _ _ _ c.in_ok-body.ensures) (did_any _ _ _ _ c.tell.ensures)

pub tell_reply-requires : goal.tell_reply-requires
tell_reply-requires g c = record { sound = c.requires.sound; bytes = packet_are _ _ c.in_ok-body.field-0 c.in-Whole.body c.in-Whole.is c.in_ok-body.ensures }
