use Rattle.std.specs.Prelude.{⊤}
use Rattle.std.proofs.Common.{Ok, Err}
use Rattle.std.proofs.lemmas.Result.{err_from_is_err_and}
use Rattle.tl_types.specs.Seen.{view}
use Rattle.wire_values.specs.Calls.{call_in, call_tree}
use Rattle.box_wire.specs.Kinds.{calls}
use Rattle.box_wire.proofs.Exactly.{reads_none, reads_value}
use Rattle.box_wire.proofs.CallLaws.{call_laws, whole_call}
use Rattle.box_wire.proofs.calls.read_call.Goals as goal

pub returns-in_err-value : goal.returns-in_err-value
returns-in_err-value c =
    let q = err_from_is_err_and c.from_residual.result c.from_residual.ensures.1 in
    rw (q.1, q.2) (reads_none c.args.profile.now c.schema.ensures.sound calls tt c.args.bytes.now c.value_of_call.ensures.bytes call_tree call_in (λ _. ⊤) call_laws c.in_err-value.field-0.0
    (whole_call c.schema.result.now c.args.profile.now.schema c.args.bytes.now c.schema.ensures.schema (Err c.in_err-value.field-0.0) c.in_err-value.ensures.whole))

pub returns : goal.returns
returns c =
    reads_value c.args.profile.now c.schema.ensures.sound calls tt c.args.bytes.now c.value_of_call.ensures.bytes call_tree call_in (λ _. ⊤) call_laws (view c.in_ok-value.value)
    (whole_call c.schema.result.now c.args.profile.now.schema c.args.bytes.now c.schema.ensures.schema (Ok c.in_ok-value.value) c.in_ok-value.ensures.whole)
    (view c.put_forms.new.value) c.put_forms.ensures c.call_in.result c.call_in.ensures
