use Rattle.tl_schema.specs.Seen.{shape}
use Rattle.tl_types.specs.Seen.{view}
use Rattle.tl_encode.proofs.Refusals.{never_fits}
use Rattle.schema_files.proofs.JsonInputs.{unfit}
use Rattle.tl_codec.proofs.spelling.bytes_of.Goals as goal

pub returns-in-Ok : goal.returns-in-Ok
returns-in-Ok c = let spells = c.in-Ok.ensures.spells c.requires.formed in (view c.in_ok-value.value, c.in_ok-value.ensures, spells.0, spells.1)

pub returns : goal.returns
returns c =
    unfit c.args.schema.now (shape c.args.of.now) c.args.text.now (view c.in_ok-value.value) c.in-Err.fault c.fit_error.result c.in_ok-value.ensures (never_fits _ c.in-Err.fault c.in-Err.ensures.fits) c.fit_error.ensures
