use Rattle.std.proofs.Common.{ap, sym, ◌∙◌}
use Rattle.std.proofs.lemmas.Result.{err_from_is_err_and}
use Rattle.outside.specs.Packets.{packet_view, whole}
use Rattle.outside.specs.Packets as packets
use Rattle.tl_base.specs.declared.host.Slot.TheVariants.{Link}
use Rattle.outside.specs.Begun.{to_link}
use Rattle.outside.proofs.Growing.{did_any, did_more, did_nothing, did_stop_by, did_then_at}
use Rattle.outside.proofs.TakenPackets.{may_packet}
use Rattle.session_rooms.specs.Conversing.{after_packet}
use Rattle.session_rooms.proofs.Conversations.{can_follow}
use Rattle.session_rooms.proofs.conversing.hear_next.Goals as goal

pub returns-in_err-bytes-clause-hears : goal.returns-in_err-bytes-clause-hears
returns-in_err-bytes-clause-hears g c =
    let p = c.args.profile.now in
    let q = err_from_is_err_and c.from_residual.result c.from_residual.ensures.1 in
    rw (q.1, q.2) (did_stop_by _ (after_packet p c.args.client.now) _ _ (can_follow p c.requires.sound c.args.client.now c.requires.asking) (did_more _ _ _ _ c.in_err-bytes.ensures))

pub returns-in-Whole-clause-hears : goal.returns-in-Whole-clause-hears
returns-in-Whole-clause-hears g c =
    did_then_at _ (after_packet c.args.profile.now c.args.client.now) _ _ _ (packet_view c.in_ok-bytes.field-0) (whole c.deref.result.now) _ (ap packet_view c.in-Whole.is ∙ sym (ap whole c.deref.ensures.value)) (may_packet Link to_link) (did_any _ _ _ _ c.in_ok-bytes.ensures)
    c.hear_bytes.ensures.hears

pub returns-in-None-clause-hears : goal.returns-in-None-clause-hears
returns-in-None-clause-hears g c = did_then_at _ (after_packet c.args.profile.now c.args.client.now) _ _ _ (packet_view c.in_ok-bytes.field-0) packets.none _ (ap packet_view c.in-None.is) (may_packet Link to_link) (did_any _ _ _ _ c.in_ok-bytes.ensures) (did_nothing _ _)

pub returns-in-Wrong-clause-hears : goal.returns-in-Wrong-clause-hears
returns-in-Wrong-clause-hears g c = did_then_at _ (after_packet c.args.profile.now c.args.client.now) _ _ _ (packet_view c.in_ok-bytes.field-0) (packets.wrong c.in-Wrong.cause) _ (ap packet_view c.in-Wrong.is) (may_packet Link to_link) (did_any _ _ _ _ c.in_ok-bytes.ensures) (did_nothing _ _)

pub returns-in-Broken-clause-hears : goal.returns-in-Broken-clause-hears
returns-in-Broken-clause-hears g c = did_then_at _ (after_packet c.args.profile.now c.args.client.now) _ _ _ (packet_view c.in_ok-bytes.field-0) packets.broken _ (ap packet_view c.in-Broken.is) (may_packet Link to_link) (did_any _ _ _ _ c.in_ok-bytes.ensures) (did_nothing _ _)
