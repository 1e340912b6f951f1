use Rattle.box_server.specs.Servers.{new_server}
use Rattle.serve_rooms.specs.Sessions.{ServesAll}
use Rattle.serve_rooms.proofs.Connections.{can_serve_all, faulty}
use Rattle.serve_rooms.proofs.Spared.{profiled_spare, refused_spare}
use Rattle.serve_rooms.proofs.serve.serve_schema.Goals as goal

pub returns-in-Ok : goal.returns-in-Ok
returns-in-Ok g c = profiled_spare (ServesAll c.args.address.now c.args.sessions new_server) c.args.schema.now c.in-Ok.profile c.in-Ok.ensures _ _ _ c.serve_new.ensures

pub returns-in-Err : goal.returns-in-Err
returns-in-Err g c =
    refused_spare (ServesAll c.args.address.now c.args.sessions new_server) (faulty c.args.address.now c.args.sessions new_server) (can_serve_all c.args.address.now c.args.sessions new_server) c.args.schema.now c.requires c.in-Err.fault _ _ _ c.in-Err.ensures c.print_made.ensures
