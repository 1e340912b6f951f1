use Rattle.tl_schema.specs.Seen.{shape}
use Rattle.schema_files.proofs.JsonInputs.{no_form}
use Rattle.schema_files.proofs.json_input.form_by.Goals as goal

pub returns-in-Err : goal.returns-in-Err
returns-in-Err c = no_form c.args.schema.now (shape c.args.of.now) c.args.text.now c.in-Err.fault c.json_error.result c.if-text.false c.in-Err.ensures.reads c.json_error.ensures
