use Rattle.serve_rooms.specs.Serve.{OpensAndServes}
use Rattle.serve_rooms.proofs.LoadedSchemas.{did_good, schema_kept, ended_kept, stopped_kept}
use Rattle.serve_rooms.proofs.Opening.{can_open}
use Rattle.serve_rooms.proofs.keep.serve_kept.Goals as goal

pub keep_schema-requires : goal.keep_schema-requires
keep_schema-requires g c = did_good c.args.schema.now _ _ _ c.in-Ok-Schema.schema c.in-Ok-Schema.field-0-is c.in-Ok-Schema.ensures

pub returns-in-Ok-Schema : goal.returns-in-Ok-Schema
returns-in-Ok-Schema g c = schema_kept (OpensAndServes c.args.address.now c.args.sessions) c.args.schema.now _ _ _ c.in-Ok-Schema.ensures _ c.in-Ok-Schema.schema _ _ c.in-Ok-Schema.field-0-is c.keep_schema.ensures

pub returns-in-Ok-Ended : goal.returns-in-Ok-Ended
returns-in-Ok-Ended g c = ended_kept (OpensAndServes c.args.address.now c.args.sessions) c.args.schema.now _ _ _ c.in-Ok-Ended.ensures _ c.in-Ok-Ended.status c.in-Ok-Ended.field-0-is

pub returns-in-Err : goal.returns-in-Err
returns-in-Err g c = stopped_kept (OpensAndServes c.args.address.now c.args.sessions) (can_open c.args.address.now c.args.sessions) c.args.schema.now _ _ _ c.in-Err.ensures
