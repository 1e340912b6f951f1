use Rattle.serve_rooms.proofs.Connections.{next_served, nobody_served}
use Rattle.serve_rooms.proofs.connection.serve_next.Goals as goal

pub returns-in-Ok : goal.returns-in-Ok
returns-in-Ok g c = next_served c.args.profile.now c.args.number c.args.store.now.server c.args.tally _ _ _ _ c.now-now.result _ _ c.in-Ok.ensures c.now-now.ensures.past c.serve_from.ensures

pub returns-in-Err : goal.returns-in-Err
returns-in-Err g c = nobody_served c.args.profile.now c.args.number c.args.store.now.server c.args.tally _ _ _ _ c.tell-status.result c.in-Err.ensures c.tell-status.ensures
