use Rattle.std.proofs.Common.{ap}
use Rattle.std.proofs.lemmas.Result.{err_from_is_err_and}
use Rattle.outside.specs.Pieces.{broken, full, taken_view}
use Rattle.outside.proofs.TakenPackets.{content_stopped, content_taken, length_bad, length_fits, length_misfits}
use Rattle.outside.proofs.packets.take_content.Goals as goal

pub returns-then-not-is_packet_length : goal.returns-then-not-is_packet_length
returns-then-not-is_packet_length g c = length_bad c.args.slot c.args.length _ (length_misfits c.is_packet_length.result c.args.length c.is_packet_length.ensures c.if-not-is_packet_length.true)

pub returns-in_err-content : goal.returns-in_err-content
returns-in_err-content g c =
    let p = err_from_is_err_and c.from_residual.result c.from_residual.ensures.1 in
    rw p.1 (content_stopped c.args.slot c.args.length _ _ (length_fits c.is_packet_length.result c.args.length c.is_packet_length.ensures c.if-not-is_packet_length.false) c.in_err-content.ensures)

pub returns-in-Full : goal.returns-in-Full
returns-in-Full g c =
    content_taken c.args.slot c.args.length _ _ c.in_ok-content.field-0 (full c.in-Full.content.items) (ap taken_view c.in-Full.is) (length_fits c.is_packet_length.result c.args.length c.is_packet_length.ensures c.if-not-is_packet_length.false) c.in_ok-content.ensures

pub returns-in-Broken : goal.returns-in-Broken
returns-in-Broken g c =
    content_taken c.args.slot c.args.length _ _ c.in_ok-content.field-0 broken (ap taken_view c.in-Broken.is) (length_fits c.is_packet_length.result c.args.length c.is_packet_length.ensures c.if-not-is_packet_length.false) c.in_ok-content.ensures
