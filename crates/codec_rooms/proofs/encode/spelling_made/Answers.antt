use Rattle.std.proofs.Common.{ap}
use Rattle.tl_schema.specs.Seen.{shape}
use Rattle.tl_types.specs.Seen.{view}
use Rattle.tl_types.specs.declared.value.TheConstants.{MAX_LEVELS}
use Rattle.tl_types.proofs.FitsAreSpelled.{each_fits_exactly}
use Rattle.outside.specs.Answer.{done}
use Rattle.schema_files.specs.Parts.{TellsJson}
use Rattle.schema_files.proofs.JsonInputs.{unfit}
use Rattle.codec_commands.specs.Encode.{OfJson, spelled}
use Rattle.codec_commands.proofs.EncodedValues.{refused_json}
use Rattle.codec_rooms.proofs.Typing.{refused_made}
use Rattle.codec_rooms.proofs.encode.spelling_made.Goals as goal

pub returns-in-Ok : goal.returns-in-Ok
returns-in-Ok c text (d, json, reads) =
    let T = shape c.args.of.now in
    let v = view c.args.value.now in
    let at = c.requires.instance in
    let spells = (each_fits_exactly c.args.plan.now.schema c.in-Ok.ensures.sound.schema MAX_LEVELS T v c.requires.formed).spelled (c.in-Ok.ensures.fits T at) in
    spelled d v spells.0 json reads spells.1 spells.2 (ap done (c.in-Ok.ensures.spelled T spells.0 at spells.1))

pub returns-in-Err : goal.returns-in-Err
returns-in-Err c text is =
    let S = c.args.plan.now.schema in
    let T = shape c.args.of.now in
    refused_made (OfJson S T text) (TellsJson S T text) c.fit_error.result (refused_json S T text)
    (unfit S T text (view c.args.value.now) c.in-Err.fault c.fit_error.result is (c.in-Err.ensures.fits T c.requires.instance) c.fit_error.ensures)
