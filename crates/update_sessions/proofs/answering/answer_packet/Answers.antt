use Rattle.std.proofs.Common.{refl}
use Rattle.update_sessions.proofs.ServerTurns.{turn_answered, turn_keeps}
use Rattle.update_sessions.proofs.answering.answer_packet.Goals as goal

pub returns-in-Err-Refused-clause-answers : goal.returns-in-Err-Refused-clause-answers
returns-in-Err-Refused-clause-answers g c =
    rw c.in-Err-Refused.field-0-is (rw c.in-Err-Refused.field-0-is at c.in-Err-Refused.ensures.told, refl, refl)

pub returns-in-Err-Failed-clause-kept : goal.returns-in-Err-Failed-clause-kept
returns-in-Err-Failed-clause-kept g c =
    let keeper = g.K.Keeper.state in
    turn_keeps c.args.profile.now c.args.store.now.server c.args.packet.now (keeper c.args.store.now.keeper) (keeper c.take_call.new.store.keeper) _ _ c.in-Ok.call c.in-Ok.ensures.given.1 (λ e. refl)
    (rw c.in-Err-Failed.field-0-is at c.in-Err-Failed.ensures.kept)

pub returns-in-Ok-put-clause-answers : goal.returns-in-Ok-put-clause-answers
returns-in-Ok-put-clause-answers g c =
    let keeper = g.K.Keeper.state in
    turn_answered c.args.profile.now c.args.store.now.server c.args.packet.now c.put_sent-put.new.out (keeper c.args.store.now.keeper).entries (keeper c.take_call.new.store.keeper).entries c.in-Ok.call c.in-Ok.ensures.given.1 c.take_call.new.store.server c.in-Ok-take_call.sent c.in-Ok-take_call.ensures.takes
    (rw c.in-Ok-put.is at c.put_sent-put.ensures)

pub returns-in-Ok-put-clause-kept : goal.returns-in-Ok-put-clause-kept
returns-in-Ok-put-clause-kept g c =
    let keeper = g.K.Keeper.state in
    turn_keeps c.args.profile.now c.args.store.now.server c.args.packet.now (keeper c.args.store.now.keeper) (keeper c.take_call.new.store.keeper) _ _ c.in-Ok.call c.in-Ok.ensures.given.1 (λ e. absurd cc) c.in-Ok-take_call.ensures.kept
