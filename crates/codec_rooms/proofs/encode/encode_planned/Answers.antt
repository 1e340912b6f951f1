use Rattle.tl_schema.specs.Seen.{shape}
use Rattle.schema_files.specs.declared.json_input.TheConstants.{JSON_BYTES}
use Rattle.codec_commands.specs.Encode.{OfJson}
use Rattle.codec_rooms.specs.Typed.{OfInput}
use Rattle.codec_rooms.proofs.Encoding.{can_input}
use Rattle.codec_rooms.proofs.Typing.{plan_is, plan_made, plan_refused}
use Rattle.codec_rooms.proofs.encode.encode_planned.Goals as goal

pub returns-in-Ok : goal.returns-in-Ok
returns-in-Ok g c = plan_made (OfInput OfJson c.args.input.now JSON_BYTES) c.args.schema.now (shape c.args.of.now) c.in-Ok.plan c.in-Ok.ensures.plans _ _ _ c.encode_file.ensures

pub returns-in-Err : goal.returns-in-Err
returns-in-Err g c =
    let S = c.args.schema.now in
    let T = shape c.args.of.now in
    plan_refused (OfInput OfJson c.args.input.now JSON_BYTES) S T (can_input S c.requires.good c.args.input.now T c.requires.formed) c.in-Err.fault _ _ _ c.in-Err.ensures.plans c.print_made.ensures

pub encode_file-requires-clause-planned : goal.encode_file-requires-clause-planned
encode_file-requires-clause-planned g c = plan_is c.args.schema.now (shape c.args.of.now) c.in-Ok.plan c.in-Ok.ensures.plans c.requires.formed
