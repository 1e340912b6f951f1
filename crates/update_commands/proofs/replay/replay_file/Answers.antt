use Rattle.std.proofs.Common.{Some, None, sym, ap, ◌∙◌}
use Rattle.std.proofs.lemmas.Result.{err_from_is_err_and}
use Rattle.tl_base.specs.declared.host.Slot.TheVariants.{Input}
use Rattle.outside.specs.Pieces.{text_view}
use Rattle.outside.specs.Begun.{to_output}
use Rattle.outside.proofs.Begun.{may_file}
use Rattle.outside.proofs.Growing.{did_any, did_more, did_stop_by, did_then_at}
use Rattle.update_replay.specs.declared.limits.TheConstants.{MAX_JOURNAL_BYTES}
use Rattle.update_commands.specs.ReplayWork.{after_journal}
use Rattle.update_commands.proofs.Replayed.{can_go_on, did_read_are}
use Rattle.update_commands.proofs.replay.replay_file.Goals as goal

pub returns-in_err-text : goal.returns-in_err-text
returns-in_err-text g c =
    let p = err_from_is_err_and c.from_residual.result c.from_residual.ensures.1 in
    rw p.1 (did_stop_by _ (after_journal c.args.clients c.args.profile) _ _ (can_go_on c.args.profile c.requires.sound c.args.clients c.args.journal.now) (did_more _ _ _ _ c.in_err-text.ensures))

pub replay_text-requires-clause-bytes : goal.replay_text-requires-clause-bytes
replay_text-requires-clause-bytes g c = did_read_are Input c.args.journal.now MAX_JOURNAL_BYTES _ _ (text_view c.in_ok-text.field-0) c.deref.result.now (ap text_view c.in-Some.is ∙ sym (ap Some c.deref.ensures.value)) c.in_ok-text.ensures

pub returns-in-Some : goal.returns-in-Some
returns-in-Some g c = did_then_at _ (after_journal c.args.clients c.args.profile) _ _ _ (text_view c.in_ok-text.field-0) (Some c.deref.result.now) _ (ap text_view c.in-Some.is ∙ sym (ap Some c.deref.ensures.value)) (may_file to_output Input c.args.journal.now MAX_JOURNAL_BYTES) (did_any _ _ _ _ c.in_ok-text.ensures) c.replay_text.ensures

pub returns-in-None : goal.returns-in-None
returns-in-None g c = did_then_at _ (after_journal c.args.clients c.args.profile) _ _ _ (text_view c.in_ok-text.field-0) None _ (ap text_view c.in-None.is) (may_file to_output Input c.args.journal.now MAX_JOURNAL_BYTES) (did_any _ _ _ _ c.in_ok-text.ensures) (did_any _ _ _ _ c.tell.ensures)
