use Rattle.std.proofs.Common.{codes, [], Some, None, ap, sym, ◌∙◌}
use Rattle.std.proofs.lemmas.Result.{err_from_is_err_and}
use Rattle.outside.specs.Pieces.{text_view}
use Rattle.tl_base.specs.declared.host.Slot.TheVariants.{Schema}
use Rattle.schema_files.specs.declared.schema_text.TheConstants.{SCHEMA_BYTES}
use Rattle.outside.proofs.Begun.{may_file}
use Rattle.outside.proofs.Growing.{did_stop, did_then_at}
use Rattle.codec_rooms.specs.Typed.{after_schema}
use Rattle.codec_rooms.proofs.Typing.{can_schema}
use Rattle.update_commands.specs.MakeWork.{makes_by}
use Rattle.update_commands.specs.Profile.{OfProfile}
use Rattle.update_commands.proofs.RunsMade.{can_make}
use Rattle.update_commands.proofs.make_work.make_run.Goals as goal

pub returns-in_err-text : goal.returns-in_err-text
returns-in_err-text g c =
    let Rest = OfProfile (makes_by c.args.number c.args.steps) in
    let p = err_from_is_err_and c.from_residual.result c.from_residual.ensures.1 in
    rw p.1 (did_stop _ (after_schema (codes "schema") Rest) _ _ (can_schema (codes "schema") Rest (can_make c.args.number c.args.steps)) c.in_err-text.ensures)

pub returns-in-Some : goal.returns-in-Some
returns-in-Some g c =
    did_then_at _ (after_schema (codes "schema") (OfProfile (makes_by c.args.number c.args.steps))) _ _ _ (text_view c.in_ok-text.field-0) (Some c.deref.result.now) _ (ap text_view c.in-Some.is ∙ sym (ap Some c.deref.ensures.value)) (may_file [] Schema c.args.schema.now SCHEMA_BYTES) c.in_ok-text.ensures c.make_text.ensures

pub returns-in-None : goal.returns-in-None
returns-in-None g c = did_then_at _ (after_schema (codes "schema") (OfProfile (makes_by c.args.number c.args.steps))) _ _ _ (text_view c.in_ok-text.field-0) None _ (ap text_view c.in-None.is) (may_file [] Schema c.args.schema.now SCHEMA_BYTES) c.in_ok-text.ensures c.tell.ensures
