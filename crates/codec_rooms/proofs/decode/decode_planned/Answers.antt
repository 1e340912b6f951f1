use Rattle.tl_schema.specs.Seen.{shape}
use Rattle.codec_rooms.specs.Decode.{OfBytes}
use Rattle.codec_rooms.proofs.Decoding.{can_bytes}
use Rattle.codec_rooms.proofs.Typing.{plan_is, plan_made, plan_refused}
use Rattle.codec_rooms.proofs.decode.decode_planned.Goals as goal

pub returns-in-Ok : goal.returns-in-Ok
returns-in-Ok g c = plan_made (OfBytes c.args.input.now) c.args.schema.now (shape c.args.of.now) c.in-Ok.plan c.in-Ok.ensures.plans _ _ _ c.decode_file.ensures

pub returns-in-Err : goal.returns-in-Err
returns-in-Err g c =
    let S = c.args.schema.now in
    let T = shape c.args.of.now in
    plan_refused (OfBytes c.args.input.now) S T (can_bytes c.args.input.now S T) c.in-Err.fault _ _ _ c.in-Err.ensures.plans c.print_made.ensures

pub decode_file-requires : goal.decode_file-requires
decode_file-requires g c = plan_is c.args.schema.now (shape c.args.of.now) c.in-Ok.plan c.in-Ok.ensures.plans c.requires
