use Rattle.std.proofs.Common.{◌+◌, arith, length}
use Rattle.outside.specs.Jobs.{of_fault}
use Rattle.call_commands.proofs.NextPackets.{packet_long}
use Rattle.call_commands.specs.CallsWork.{so_far}
use Rattle.call_commands.proofs.Going.{can_packet, open_results}
use Rattle.call_commands.proofs.Taking.{content_turn, far_turn, line_goes, refused_goes, told_turn}
use Rattle.call_commands.proofs.turns.tell_whole.Goals as goal

pub returns-then-end-clause-does : goal.returns-then-end-clause-does
returns-then-end-clause-does g c = λ past stands.
    let S = c.args.schema.now in
    far_turn S c.args.calls.now past c.args.at c.args.content.now _ _ c.placed.result c.refuse.result (omega (arith, c.if-end.true, packet_long c.args.content.now))
    (can_packet S c.requires.good (so_far past c.args.at) (open_results S c.args.calls.now past stands c.requires.fitting) c.args.content.now (λ k. omega (arith, c.type_inv.content k)) c.requires.whole) c.placed.ensures c.refuse.ensures

pub returns-in-Ok-clause-does : goal.returns-in-Ok-clause-does
returns-in-Ok-clause-does g c = λ past stands.
    let S = c.args.schema.now in
    told_turn S c.tell_packet.new.calls past c.args.at c.args.content.now c.args.calls.now stands (omega (arith, c.if-end.false, packet_long c.args.content.now)) _ _ c.in-Ok.line c.deref.result.now (c.args.at + 4 + length c.args.content.now) c.write_line.result
    c.deref.ensures.value (omega (arith, packet_long c.args.content.now)) c.in-Ok.ensures.tells c.write_line.ensures.does

pub returns-in-Err-clause-does : goal.returns-in-Err-clause-does
returns-in-Err-clause-does g c = λ past stands.
    let S = c.args.schema.now in
    content_turn S c.tell_packet.new.calls past c.args.at c.args.content.now c.args.calls.now stands (omega (arith, c.if-end.false, packet_long c.args.content.now)) _ _ c.in-Err.fault c.refuse-in-Err.result
    (can_packet S c.requires.good (so_far past c.args.at) (open_results S c.args.calls.now past stands c.requires.fitting) c.args.content.now (λ k. omega (arith, c.type_inv.content k)) c.requires.whole) c.in-Err.ensures.tells c.refuse-in-Err.ensures

pub returns-then-end-clause-on : goal.returns-then-end-clause-on
returns-then-end-clause-on g c = refused_goes c.args.at c.args.calls.now c.args.calls.now (of_fault c.placed.result) _ _ c.refuse.result c.refuse.ensures

pub returns-in-Ok-clause-on : goal.returns-in-Ok-clause-on
returns-in-Ok-clause-on g c =
    line_goes c.args.at (c.args.at + 4 + length c.args.content.now) c.args.calls.now c.tell_packet.new.calls c.write_line.result c.write_line.ensures.next (omega (arith, c.in-Ok.ensures.some)) (omega (arith, c.if-end.false)) c.in-Ok.ensures.few

pub returns-in-Err-clause-on : goal.returns-in-Err-clause-on
returns-in-Err-clause-on g c = refused_goes c.args.at c.args.calls.now c.tell_packet.new.calls (of_fault c.in-Err.fault) _ _ c.refuse-in-Err.result c.refuse-in-Err.ensures
