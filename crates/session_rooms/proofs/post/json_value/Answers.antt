use Rattle.std.proofs.Common.{Ok, Err}
use Rattle.std.proofs.lemmas.Result.{err_from_is_err_and}
use Rattle.tl_schema.specs.declared.schema.TypeRef.TheVariants as ref
use Rattle.tl_schema.specs.Seen.{shape}
use Rattle.tl_types.specs.Seen.{view}
use Rattle.box_wire.proofs.Called.{called}
use Rattle.schema_files.proofs.JsonInputs.{unfit}
use Rattle.session_rooms.proofs.Posting.{form_unread, json_as}
use Rattle.session_rooms.proofs.post.json_value.Goals as goal

pub returns-in_err-value : goal.returns-in_err-value
returns-in_err-value c =
    let q = err_from_is_err_and c.from_residual.result c.from_residual.ensures.1 in
    rw (q.1, q.2) (json_as c.args.profile.now c.schema-schema.result.now (shape ref.Call) c.args.text.now (Err c.in_err-value.field-0.0) c.schema-schema.ensures.schema called (form_unread c.schema-schema.result.now (shape ref.Call) c.args.text.now c.in_err-value.field-0.0 c.in_err-value.ensures))

pub returns-in-Ok : goal.returns-in-Ok
returns-in-Ok c =
    let is = c.in_ok-value.ensures in
    json_as c.args.profile.now c.schema-schema.result.now (shape ref.Call) c.args.text.now (Ok c.in_ok-value.value) c.schema-schema.ensures.schema called (is.0, is.1, is.2, c.in-Ok.ensures.fits)

pub returns-in-Err : goal.returns-in-Err
returns-in-Err c =
    json_as c.args.profile.now c.schema-schema.result.now (shape ref.Call) c.args.text.now (Err c.fit_error.result) c.schema-schema.ensures.schema called
    (unfit c.schema-schema.result.now (shape ref.Call) c.args.text.now (view c.in_ok-value.value) c.in-Err.fault c.fit_error.result c.in_ok-value.ensures c.in-Err.ensures.fits c.fit_error.ensures)
