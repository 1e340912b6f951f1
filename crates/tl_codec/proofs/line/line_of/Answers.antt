use Rattle.tl_schema.specs.Seen.{shape}
use Rattle.tl_types.specs.Seen.{view}
use Rattle.tl_codec.proofs.Told.{fault_told}
use Rattle.tl_codec.proofs.line.line_of.Goals as goal

pub returns-in-Ok-line_by : goal.returns-in-Ok-line_by
returns-in-Ok-line_by c = (view c.in-Ok.value, c.in-Ok.ensures.whole.0, c.in-Ok.ensures.whole.1, c.in-Ok-line_by.ensures c.args.schema.now c.requires.made)

pub returns : goal.returns
returns c =
    fault_told c.args.schema.now (shape c.args.of.now) c.args.bytes.now c.in-Err.fault c.input_error.result c.in-Err.ensures.whole c.input_error.ensures.tells
