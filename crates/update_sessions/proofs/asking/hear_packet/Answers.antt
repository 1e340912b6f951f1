use Rattle.std.proofs.Common.{arith}
use Rattle.update_sessions.proofs.ClientSteps.{next_ok}
use Rattle.update_sessions.proofs.Received.{hearable}
use Rattle.update_sessions.proofs.Turning.{turn_refused, turn_unread, turned}
use Rattle.update_sessions.proofs.asking.hear_packet.Goals as goal

pub returns-in-Err-clause-hears : goal.returns-in-Err-clause-hears
returns-in-Err-clause-hears c =
    rw c.of_wire.ensures (turn_unread c.args.profile.now c.args.client.now c.args.packet.now c.args.out.now c.in-Err.fault c.in-Err.ensures.reads.told)

pub returns-in-Err-hear_frame-clause-hears : goal.returns-in-Err-hear_frame-clause-hears
returns-in-Err-hear_frame-clause-hears c =
    rw c.of_client.ensures (turn_refused c.args.profile.now c.args.client.now c.args.packet.now c.args.out.now c.in-Ok.frame c.in-Ok.ensures.reads.given c.hear_frame.new.client c.in-Err-hear_frame.fault c.in-Err-hear_frame.ensures)

pub hear_frame-requires : goal.hear_frame-requires
hear_frame-requires c = hearable c.args.profile.now c.in-Ok.ensures.sound c.in-Ok.frame c.args.packet.now c.in-Ok.ensures.reads.given

pub put_asks-requires : goal.put_asks-requires
put_asks-requires c = let same = next_ok c.args.client.now c.hear_frame.new.client c.in-Ok.frame c.in-Ok-hear_frame.ensures.1 in omega (arith, same, c.requires.next)

pub returns-in_err-put_asks-clause-next : goal.returns-in_err-put_asks-clause-next
returns-in_err-put_asks-clause-next c = let same = next_ok c.args.client.now c.hear_frame.new.client c.in-Ok.frame c.in-Ok-hear_frame.ensures.1 in omega (arith, same, c.put_asks.ensures.next)

pub returns-clause-next : goal.returns-clause-next
returns-clause-next c = let same = next_ok c.args.client.now c.hear_frame.new.client c.in-Ok.frame c.in-Ok-hear_frame.ensures.1 in omega (arith, same, c.put_asks.ensures.next)

pub returns-clause-hears : goal.returns-clause-hears
returns-clause-hears c =
    turned c.args.profile.now c.args.client.now c.args.packet.now c.put_asks.new.out c.in-Ok.frame c.in-Ok.ensures.reads.given c.hear_frame.new.client c.put_asks.new.client c.requires.asking c.in-Ok-hear_frame.ensures
    c.put_asks.ensures.ticks c.in_ok-put_asks.ensures.asks
