use Rattle.session_rooms.proofs.LeftClients.{left_after, stopped_after, told_after}
use Rattle.session_rooms.proofs.client.recover_linked.Goals as goal

pub returns-in-Ok : goal.returns-in-Ok
returns-in-Ok g c = left_after c.args.profile.now c.args.state.now c.args.client.now c.converse.new.client _ _ _ _ c.in-Ok.ensures c.save_client.ensures

pub returns-in-Err-Refused : goal.returns-in-Err-Refused
returns-in-Err-Refused g c = told_after c.args.profile.now c.args.state.now c.args.client.now c.converse.new.client _ _ _ c.in-Err-Refused.fault _ (rw c.in-Err-Refused.field-0-is at c.in-Err-Refused.ensures) c.tell_session.ensures

pub returns-in-Err-Memory : goal.returns-in-Err-Memory
returns-in-Err-Memory g c = stopped_after c.args.profile.now c.args.state.now c.args.client.now _ _ (rw c.in-Err-Memory.field-0-is at c.in-Err-Memory.ensures)
