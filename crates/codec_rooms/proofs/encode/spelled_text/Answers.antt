use Rattle.std.proofs.Common.{subst}
use Rattle.tl_schema.specs.Schemas.{Declared}
use Rattle.tl_schema.specs.Seen.{shape}
use Rattle.tl_types.specs.Seen.{view}
use Rattle.outside.specs.Loading.{Refuses}
use Rattle.schema_files.specs.JsonInput.{IsForm}
use Rattle.schema_files.specs.Parts.{TellsForm}
use Rattle.codec_commands.specs.Encode.{OfJson}
use Rattle.codec_commands.proofs.EncodedValues.{refused_form}
use Rattle.codec_rooms.proofs.Typing.{refused_made}
use Rattle.codec_rooms.proofs.encode.spelled_text.Goals as goal

pub returns-in-Ok : goal.returns-in-Ok
returns-in-Ok c = c.spelling_made.ensures c.args.text.now (subst (λ (S : Declared). IsForm S (shape c.args.of.now) c.args.text.now (view c.in-Ok.value)) c.schema.ensures c.in-Ok.ensures)

pub returns-in-Err : goal.returns-in-Err
returns-in-Err c =
    let S = c.args.plan.now.schema in
    let T = shape c.args.of.now in
    refused_made (OfJson S T c.args.text.now) (TellsForm S T c.args.text.now) c.in-Err.fault (refused_form S T c.args.text.now)
    (subst (λ (D : Declared). Refuses (TellsForm D T c.args.text.now) c.in-Err.fault) c.schema.ensures c.in-Err.ensures)
