use Rattle.std.proofs.Common.{codes, [], Some, None, ap, sym, ◌∙◌}
use Rattle.std.proofs.lemmas.Result.{err_from_is_err_and}
use Rattle.tl_schema.specs.Seen.{shape}
use Rattle.outside.specs.Pieces.{text_view}
use Rattle.tl_base.specs.declared.host.Slot.TheVariants.{Input}
use Rattle.schema_files.specs.declared.schema_text.TheConstants.{SCHEMA_BYTES}
use Rattle.outside.proofs.Begun.{may_file}
use Rattle.outside.proofs.Growing.{did_stop, did_then_at}
use Rattle.codec_rooms.specs.Layers.{compared}
use Rattle.codec_rooms.specs.Typed.{after_schema}
use Rattle.codec_rooms.proofs.Layering.{can_compare}
use Rattle.codec_rooms.proofs.Typing.{can_schema}
use Rattle.codec_rooms.proofs.layers.compare_file.Goals as goal

pub returns-in_err-text : goal.returns-in_err-text
returns-in_err-text g c =
    let Rest = compared c.args.old.now (shape c.args.of.now) in
    let p = err_from_is_err_and c.from_residual.result c.from_residual.ensures.1 in
    rw p.1 (did_stop _ (after_schema (codes "new") Rest) _ _ (can_schema (codes "new") Rest (can_compare c.args.old.now c.requires.good (shape c.args.of.now) c.requires.formed)) c.in_err-text.ensures)

pub returns-in-Some : goal.returns-in-Some
returns-in-Some g c =
    did_then_at _ (after_schema (codes "new") (compared c.args.old.now (shape c.args.of.now))) _ _ _ (text_view c.in_ok-text.field-0) (Some c.deref.result.now) _
    (ap text_view c.in-Some.is ∙ sym (ap Some c.deref.ensures.value)) (may_file [] Input c.args.new.now SCHEMA_BYTES) c.in_ok-text.ensures c.compare_text.ensures

pub returns-in-None : goal.returns-in-None
returns-in-None g c =
    did_then_at _ (after_schema (codes "new") (compared c.args.old.now (shape c.args.of.now))) _ _ _ (text_view c.in_ok-text.field-0) None _
    (ap text_view c.in-None.is) (may_file [] Input c.args.new.now SCHEMA_BYTES) c.in_ok-text.ensures c.unread.ensures
