use Rattle.std.proofs.Common.{codes}
use Rattle.codec_rooms.specs.inner.Purposes.{asked_by}
use Rattle.codec_rooms.proofs.Following.{can_follow}
use Rattle.codec_rooms.proofs.Typing.{text_read, text_refused}
use Rattle.codec_rooms.proofs.typed.follow_text.Goals as goal

pub returns-in-Ok : goal.returns-in-Ok
returns-in-Ok g c = text_read (codes "schema") (asked_by c.args.purpose c.args.of.now c.args.input.now) c.args.text.now c.in-Ok.schema _ _ _ c.in-Ok.ensures c.follow_schema.ensures

pub returns-in-Err : goal.returns-in-Err
returns-in-Err g c =
    let Rest = asked_by c.args.purpose c.args.of.now c.args.input.now in
    text_refused (codes "schema") Rest (can_follow c.args.purpose c.args.of.now c.args.input.now) c.args.text.now c.in-Err.fault _ _ _ c.in-Err.ensures c.print_made.ensures

pub follow_schema-requires : goal.follow_schema-requires
follow_schema-requires g c = c.in-Ok.ensures.good
