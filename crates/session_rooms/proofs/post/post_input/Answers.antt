use Rattle.std.proofs.Common.{Some, None, ap, sym, ◌∙◌}
use Rattle.std.proofs.lemmas.Result.{err_from_is_err_and}
use Rattle.outside.specs.Pieces.{text_view}
use Rattle.tl_base.specs.declared.host.Slot.TheVariants as slots
use Rattle.schema_files.specs.declared.json_input.TheConstants.{JSON_BYTES}
use Rattle.outside.specs.Begun.{to_link}
use Rattle.outside.proofs.Begun.{may_file}
use Rattle.outside.proofs.Growing.{did_any, did_more, did_stop_by, did_then_at}
use Rattle.session_rooms.specs.Post.{after_reading}
use Rattle.session_rooms.proofs.Posting.{can_after_reading}
use Rattle.session_rooms.proofs.post.post_input.Goals as goal

pub returns-in_err-text : goal.returns-in_err-text
returns-in_err-text g c =
    let q = err_from_is_err_and c.from_residual.result c.from_residual.ensures.1 in
    rw q.1 (did_stop_by _ (after_reading c.args.profile.now c.args.address.now) _ _ (can_after_reading c.args.profile.now c.args.address.now c.requires.sound c.args.input.now) (did_more _ _ _ _ c.in_err-text.ensures))

pub returns-in-Some : goal.returns-in-Some
returns-in-Some g c = did_then_at _ (after_reading c.args.profile.now c.args.address.now) _ _ _ (text_view c.in_ok-text.field-0) (Some c.deref.result.now) _ (ap text_view c.in-Some.is ∙ sym (ap Some c.deref.ensures.value)) (may_file to_link slots.Input c.args.input.now JSON_BYTES) (did_any _ _ _ _ c.in_ok-text.ensures) c.post_json.ensures

pub returns-in-None : goal.returns-in-None
returns-in-None g c = did_then_at _ (after_reading c.args.profile.now c.args.address.now) _ _ _ (text_view c.in_ok-text.field-0) None _ (ap text_view c.in-None.is) (may_file to_link slots.Input c.args.input.now JSON_BYTES) (did_any _ _ _ _ c.in_ok-text.ensures) (did_any _ _ _ _ c.tell.ensures)
