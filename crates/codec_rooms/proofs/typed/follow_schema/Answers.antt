use Rattle.tl_schema.specs.Seen.{shape}
use Rattle.tl_schema.proofs.AskedFormed.{text_formed}
use Rattle.codec_rooms.specs.inner.Purposes.{of_type}
use Rattle.codec_rooms.proofs.Following.{can_type}
use Rattle.codec_rooms.proofs.Typing.{asked_meant, asked_refused}
use Rattle.codec_rooms.proofs.typed.follow_schema.Goals as goal

pub returns-in-Ok : goal.returns-in-Ok
returns-in-Ok g c = asked_meant (of_type c.args.purpose c.args.input.now) c.args.schema.now c.args.of.now (shape c.in-Ok.of) _ _ _ c.in-Ok.ensures.names c.follow_type.ensures

pub returns-in-Err : goal.returns-in-Err
returns-in-Err g c =
    let S = c.args.schema.now in
    let word = c.args.of.now in
    asked_refused (of_type c.args.purpose c.args.input.now) S word (λ s is. can_type c.args.purpose c.args.input.now S c.requires s (text_formed S c.requires word s is)) c.in-Err.fault _ _ _
    c.in-Err.ensures.names c.print_made.ensures
