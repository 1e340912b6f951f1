use Rattle.std.proofs.Common.{[], Some, None, ap, sym, ◌∙◌}
use Rattle.std.proofs.lemmas.Result.{err_from_is_err_and}
use Rattle.tl_base.specs.declared.host.Slot.TheVariants.{Schema}
use Rattle.schema_files.specs.declared.schema_text.TheConstants.{SCHEMA_BYTES}
use Rattle.outside.specs.Pieces.{text_view}
use Rattle.outside.specs.Printing.{Unread}
use Rattle.outside.proofs.Begun.{may_file}
use Rattle.outside.proofs.Growing.{did_stop, did_then_at}
use Rattle.serve_rooms.specs.Serve.{after_reading}
use Rattle.serve_rooms.proofs.LoadedSchemas.{can_reading, ended_by}
use Rattle.serve_rooms.proofs.loading.load_schema.Goals as goal

pub returns-in_err-text : goal.returns-in_err-text
returns-in_err-text g c =
    let q = err_from_is_err_and c.from_residual.result c.from_residual.ensures.1 in
    rw q.1 (did_stop _ after_reading _ _ can_reading c.in_err-text.ensures)

pub returns-in-Some : goal.returns-in-Some
returns-in-Some g c = did_then_at _ after_reading _ _ _ (text_view c.in_ok-text.field-0) (Some c.deref.result.now) _ (ap text_view c.in-Some.is ∙ sym (ap Some c.deref.ensures.value)) (may_file [] Schema c.args.schema.now SCHEMA_BYTES) c.in_ok-text.ensures c.load_text.ensures

pub returns-in-None : goal.returns-in-None
returns-in-None g c = did_then_at _ after_reading _ _ _ (text_view c.in_ok-text.field-0) None _ (ap text_view c.in-None.is) (may_file [] Schema c.args.schema.now SCHEMA_BYTES) c.in_ok-text.ensures (ended_by Unread _ _ (Some c.unread.result) c.unread.ensures)
