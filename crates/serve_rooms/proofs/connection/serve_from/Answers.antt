use Rattle.serve_rooms.proofs.Connections.{session_left, session_lost, session_told}
use Rattle.serve_rooms.proofs.connection.serve_from.Goals as goal

pub returns-in-Ok : goal.returns-in-Ok
returns-in-Ok g c =
    let t = c.serve_link.new.store in
    session_told c.args.profile.now c.args.number c.args.now c.args.store.now.server c.set_date.new.self.server c.set_date.ensures.server c.args.tally _ _ _ t.server c.in-Ok.end _ (rw c.set_date.ensures.keeper at c.in-Ok.ensures)
    (c.tell_session.ensures t.server (g.K.Keeper.state t.keeper))

pub returns-in-Err-Failed : goal.returns-in-Err-Failed
returns-in-Err-Failed g c =
    session_lost c.args.profile.now c.args.number c.args.now c.args.store.now.server c.set_date.new.self.server c.set_date.ensures.server c.args.tally _ _ _ (g.K.Keeper.state c.serve_link.new.store.keeper) c.tell-status.result
    (rw c.in-Err-Failed.field-0-is at (rw c.set_date.ensures.keeper at c.in-Err-Failed.ensures)) c.tell-status.ensures

pub returns-in-Err-Memory : goal.returns-in-Err-Memory
returns-in-Err-Memory g c =
    session_left c.args.profile.now c.args.number c.args.now c.args.store.now.server c.set_date.new.self.server c.set_date.ensures.server c.args.tally _ _ (rw c.in-Err-Memory.field-0-is at (rw c.set_date.ensures.keeper at c.in-Err-Memory.ensures))
