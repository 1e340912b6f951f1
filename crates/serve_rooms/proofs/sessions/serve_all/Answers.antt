use Rattle.serve_rooms.proofs.Connections.{listening_served, nobody_listened}
use Rattle.serve_rooms.proofs.sessions.serve_all.Goals as goal

pub returns-in-Ok : goal.returns-in-Ok
returns-in-Ok g c = listening_served c.args.address.now c.args.sessions c.args.store.now.server c.args.profile.now _ _ _ _ _ c.in-Ok.ensures c.serve_listening.ensures

pub returns-in-Err : goal.returns-in-Err
returns-in-Err g c = nobody_listened c.args.address.now c.args.sessions c.args.store.now.server c.args.profile.now _ _ _ _ _ c.in-Err.ensures c.tell-status.ensures
