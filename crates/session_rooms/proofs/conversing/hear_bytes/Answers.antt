use Rattle.std.proofs.Common.{arith}
use Rattle.std.proofs.lemmas.Result.{err_from_is_err_and}
use Rattle.session_rooms.proofs.Conversations.{can_hear, heard_and_asked, heard_and_cut, not_heard}
use Rattle.session_rooms.proofs.conversing.hear_bytes.Goals as goal

pub returns-in_err-hear_packet-clause-hears : goal.returns-in_err-hear_packet-clause-hears
returns-in_err-hear_packet-clause-hears g c =
    let p = c.args.profile.now in
    let q = err_from_is_err_and c.from_residual.result c.from_residual.ensures.1 in
    rw (q.1, q.2) (not_heard p c.args.client.now c.hear_packet.new.client c.args.packet.now c.hear_packet.new.out c.in_err-hear_packet.field-0.0 _ (can_hear p c.requires.sound c.args.client.now c.requires.asking c.args.packet.now (λ k. omega (arith, c.type_inv.packet k))) c.in_err-hear_packet.ensures.hears)

pub returns-in-Ok-clause-hears : goal.returns-in-Ok-clause-hears
returns-in-Ok-clause-hears g c = heard_and_asked c.args.profile.now c.args.client.now c.hear_packet.new.client c.args.packet.now c.hear_packet.new.out c.in_ok-hear_packet.ensures.hears _ _ (λ calls packed. c.in-Ok.ensures c.args.profile.now calls packed)

pub returns-in-Err-clause-hears : goal.returns-in-Err-clause-hears
returns-in-Err-clause-hears g c = heard_and_cut c.args.profile.now c.args.client.now c.hear_packet.new.client c.args.packet.now c.hear_packet.new.out c.in_ok-hear_packet.ensures.hears _ _ (λ calls packed. c.in-Err.ensures c.args.profile.now calls packed)
