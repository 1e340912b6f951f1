use Rattle.serve_rooms.proofs.Connections.{goes_on_told, none_told, over_told}
use Rattle.serve_rooms.proofs.connection.tell_session.Goals as goal

pub returns-in-Ok-Ok : goal.returns-in-Ok-Ok
returns-in-Ok-Ok g c = λ s k. goes_on_told c.args.number c.args.tally s c.args.end _ _ k c.in-Ok-Ok.tally (rw c.in-Ok-Ok.field-0-is at c.in-Ok-Ok.ensures)

pub returns-in-Ok-Err : goal.returns-in-Ok-Err
returns-in-Ok-Err g c = λ s k. over_told c.args.number c.args.tally s c.args.end _ _ k c.in-Ok-Err.status (rw c.in-Ok-Err.field-0-is at c.in-Ok-Err.ensures)

pub returns-in-Err : goal.returns-in-Err
returns-in-Err g c = λ s k. none_told c.args.number c.args.tally s c.args.end _ _ k c.in-Err.ensures
