use Rattle.box_events.specs.declared.replies.Frame.{Frame}
use Rattle.box_wire.specs.Framing.{WireRefused}
use Rattle.box_wire.specs.Kinds.{frames}
use Rattle.update_sessions.specs.Packed.{MeansFrame}
use Rattle.update_sessions.proofs.Received.{hearable, meant, no_packet, refused}
use Rattle.update_sessions.proofs.receiving.receive_frame.Goals as goal

pub returns-in-Err-clause-receives : goal.returns-in-Err-clause-receives
returns-in-Err-clause-receives g c =
    let p = c.args.profile.now in
    rw c.of_packet.ensures (no_packet {M = Frame} (MeansFrame p) (WireRefused p frames) (g.S.Source.state c.args.from.now).left (g.S.Source.state c.read_packet.new.from).left c.read_packet.new.into c.in-Err.fault c.in-Err.ensures.bytes c.in-Err.ensures.into)

pub returns-in-Err-read_frame-clause-receives : goal.returns-in-Err-read_frame-clause-receives
returns-in-Err-read_frame-clause-receives g c =
    let p = c.args.profile.now in
    rw c.of_wire.ensures (refused (MeansFrame p) (WireRefused p frames) (g.S.Source.state c.args.from.now).left (g.S.Source.state c.read_packet.new.from).left c.read_packet.new.into c.as_slice.result.now
    (rw c.in-Ok-true.field-0-test at c.in-Ok-true.ensures.bytes) (rw c.in-Ok-true.field-0-test at c.in-Ok-true.ensures.into) c.as_slice.ensures.value c.in-Err-read_frame.fault c.in-Err-read_frame.ensures.reads.told)

pub returns-in-Ok-clause-receives : goal.returns-in-Ok-clause-receives
returns-in-Ok-clause-receives g c =
    let p = c.args.profile.now in
    meant (MeansFrame p) (WireRefused p frames) (g.S.Source.state c.args.from.now).left (g.S.Source.state c.read_packet.new.from).left c.read_packet.new.into c.as_slice.result.now
    (rw c.in-Ok-true.field-0-test at c.in-Ok-true.ensures.bytes) (rw c.in-Ok-true.field-0-test at c.in-Ok-true.ensures.into) c.as_slice.ensures.value c.in-Ok.frame c.in-Ok.ensures.reads.given

pub returns-in-Ok-clause-hearable : goal.returns-in-Ok-clause-hearable
returns-in-Ok-clause-hearable g c = hearable c.args.profile.now c.in-Ok.ensures.sound c.in-Ok.frame c.as_slice.result.now c.in-Ok.ensures.reads.given
