use Rattle.std.proofs.lemmas.Result.{err_from_is_err_and}
use Rattle.box_server.specs.Servers.{new_server}
use Rattle.serve_rooms.specs.Sessions.{ServesAll}
use Rattle.serve_rooms.proofs.Connections.{can_serve_all, faulty}
use Rattle.serve_rooms.proofs.LoadedSchemas.{did_good}
use Rattle.serve_rooms.proofs.Spared.{stopped_spare, schema_spare, ended_spare}
use Rattle.serve_rooms.proofs.serve.serve_sessions.Goals as goal

pub returns-in_err-schema : goal.returns-in_err-schema
returns-in_err-schema g c =
    let q = err_from_is_err_and c.from_residual.result c.from_residual.ensures.1 in
    rw q.1 (stopped_spare (ServesAll c.args.address.now c.args.sessions new_server) (faulty c.args.address.now c.args.sessions new_server) (can_serve_all c.args.address.now c.args.sessions new_server) c.args.schema.now _ _ c.in_err-schema.ensures)

pub serve_schema-requires : goal.serve_schema-requires
serve_schema-requires g c = did_good c.args.schema.now _ _ _ c.in-Schema.schema c.in-Schema.is c.in_ok-schema.ensures

pub returns-in-Schema : goal.returns-in-Schema
returns-in-Schema g c = schema_spare (ServesAll c.args.address.now c.args.sessions new_server) c.args.schema.now _ _ _ c.in_ok-schema.ensures c.in-Schema.schema _ _ c.in-Schema.is c.serve_schema.ensures

pub returns-in-Ended : goal.returns-in-Ended
returns-in-Ended g c = ended_spare (ServesAll c.args.address.now c.args.sessions new_server) c.args.schema.now _ _ _ c.in_ok-schema.ensures c.in-Ended.status c.in-Ended.is
