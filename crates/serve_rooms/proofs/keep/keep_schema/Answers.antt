use Rattle.serve_rooms.specs.Serve.{OpensAndServes}
use Rattle.serve_rooms.proofs.LoadedSchemas.{profile_made, profile_refused}
use Rattle.serve_rooms.proofs.Opening.{can_open}
use Rattle.serve_rooms.proofs.keep.keep_schema.Goals as goal

pub returns-in-Ok : goal.returns-in-Ok
returns-in-Ok g c = profile_made (OpensAndServes c.args.address.now c.args.sessions) c.args.schema.now c.in-Ok.profile _ _ _ c.in-Ok.ensures c.open_and_serve.ensures

pub returns-in-Err : goal.returns-in-Err
returns-in-Err g c =
    rw c.as_kept.ensures
    (profile_refused (OpensAndServes c.args.address.now c.args.sessions) c.args.schema.now c.requires (can_open c.args.address.now c.args.sessions) c.in-Err.fault _ _ _ _ c.in-Err.ensures c.print_made.ensures)
