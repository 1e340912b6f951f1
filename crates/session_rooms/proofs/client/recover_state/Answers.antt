use Rattle.std.proofs.Common.{Some, None, ap, sym, ◌∙◌}
use Rattle.std.proofs.lemmas.Result.{err_from_is_err_and}
use Rattle.outside.specs.Pieces.{text_view}
use Rattle.tl_base.specs.declared.host.Slot.TheVariants as slots
use Rattle.session_commands.specs.declared.state.TheConstants.{MAX_STATE_BYTES}
use Rattle.outside.specs.Begun.{to_link}
use Rattle.outside.proofs.Begun.{may_file}
use Rattle.outside.proofs.Growing.{did_any, did_more, did_stop_by, did_then_at}
use Rattle.session_rooms.specs.Client.{after_reading}
use Rattle.session_rooms.proofs.States.{can_after_reading}
use Rattle.session_rooms.proofs.client.recover_state.Goals as goal

pub returns-in_err-bytes : goal.returns-in_err-bytes
returns-in_err-bytes g c =
    let p = c.args.profile.now in
    let q = err_from_is_err_and c.from_residual.result c.from_residual.ensures.1 in
    rw q.1 (did_stop_by _ (after_reading p c.args.address.now c.args.state.now c.args.channels.now) _ _ (can_after_reading p c.args.address.now c.args.state.now c.args.channels.now c.requires.sound) (did_more _ _ _ _ c.in_err-bytes.ensures))

pub returns-in-Some : goal.returns-in-Some
returns-in-Some g c =
    did_then_at _ (after_reading c.args.profile.now c.args.address.now c.args.state.now c.args.channels.now) _ _ _ (text_view c.in_ok-bytes.field-0) (Some c.deref.result.now) _ (ap text_view c.in-Some.is ∙ sym (ap Some c.deref.ensures.value)) (may_file to_link slots.State c.args.state.now MAX_STATE_BYTES) (did_any _ _ _ _ c.in_ok-bytes.ensures)
    c.recover_bytes.ensures

pub returns-in-None : goal.returns-in-None
returns-in-None g c = did_then_at _ (after_reading c.args.profile.now c.args.address.now c.args.state.now c.args.channels.now) _ _ _ (text_view c.in_ok-bytes.field-0) None _ (ap text_view c.in-None.is) (may_file to_link slots.State c.args.state.now MAX_STATE_BYTES) (did_any _ _ _ _ c.in_ok-bytes.ensures) (did_any _ _ _ _ c.tell.ensures)
