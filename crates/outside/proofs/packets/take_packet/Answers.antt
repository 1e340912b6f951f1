use Rattle.std.proofs.Common.{◌≡◌, ap, ◌∙◌, arith, length, vec_len}
use Rattle.std.proofs.lemmas.Result.{err_from_is_err_and}
use Rattle.outside.specs.Packets.{cut_off}
use Rattle.outside.specs.Packets as packets
use Rattle.outside.specs.Pieces.{broken, taken_view}
use Rattle.outside.proofs.Growing.{did_nothing, did_stop}
use Rattle.outside.proofs.TakenPackets.{can_head, head_cut, head_taken, head_whole}
use Rattle.outside.proofs.packets.take_packet.Goals as goal

pub returns-in_err-head : goal.returns-in_err-head
returns-in_err-head g c =
    let p = err_from_is_err_and c.from_residual.result c.from_residual.ensures.1 in
    rw p.1 (did_stop _ _ _ _ (can_head c.args.slot) c.in_err-head.ensures)

pub returns-in-Full : goal.returns-in-Full
returns-in-Full g c =
    head_whole c.args.slot _ _ _ c.in_ok-head.field-0 c.in-Full.head c.deref.result.now c.length_of.result _ c.in-Full.is c.deref.ensures.value c.length_of.ensures c.in_ok-head.ensures c.take_content.ensures

pub returns-in-Broken : goal.returns-in-Broken
returns-in-Broken g c = head_taken c.args.slot _ _ _ c.in_ok-head.field-0 broken _ (ap taken_view c.in-Broken.is) c.in_ok-head.ensures (did_nothing _ packets.broken)

pub returns-in-Short : goal.returns-in-Short
returns-in-Short g c =
    let long : vec_len c.in-Short.head ≡ length c.in-Short.head.items = omega (arith, c.in-Short.head.ok.0) in
    head_cut c.args.slot _ _ c.in_ok-head.field-0 c.in-Short.head _ c.in-Short.is (c.cut_head.ensures ∙ ap cut_off (c.len.ensures ∙ long)) c.in_ok-head.ensures
