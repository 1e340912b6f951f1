use Rattle.std.proofs.Common.{codes, Some, None, ap, sym, ◌∙◌}
use Rattle.std.proofs.lemmas.Result.{err_from_is_err_and}
use Rattle.outside.specs.Pieces.{text_view}
use Rattle.tl_base.specs.declared.host.Slot.TheVariants.{Schema}
use Rattle.schema_files.specs.declared.schema_text.TheConstants.{SCHEMA_BYTES}
use Rattle.outside.specs.Begun.{to_output}
use Rattle.outside.proofs.Begun.{may_file}
use Rattle.outside.proofs.Growing.{did_any, did_more, did_stop, did_then_at}
use Rattle.codec_rooms.specs.Typed.{after_schema}
use Rattle.codec_rooms.proofs.Typing.{can_schema}
use Rattle.update_commands.specs.Profile.{OfProfile}
use Rattle.update_commands.specs.ReplayWork.{replays_by}
use Rattle.update_commands.proofs.Replayed.{can_replay}
use Rattle.update_commands.proofs.replay.replay_journal.Goals as goal

pub returns-in_err-text : goal.returns-in_err-text
returns-in_err-text g c =
    let Rest = OfProfile (replays_by c.args.journal.now c.args.clients) in
    let p = err_from_is_err_and c.from_residual.result c.from_residual.ensures.1 in
    rw p.1 (did_stop _ (after_schema (codes "schema") Rest) _ _ (can_schema (codes "schema") Rest (can_replay c.args.journal.now c.args.clients)) (did_more _ _ _ _ c.in_err-text.ensures))

pub returns-in-Some : goal.returns-in-Some
returns-in-Some g c =
    did_then_at _ (after_schema (codes "schema") (OfProfile (replays_by c.args.journal.now c.args.clients))) _ _ _ (text_view c.in_ok-text.field-0) (Some c.deref.result.now) _ (ap text_view c.in-Some.is ∙ sym (ap Some c.deref.ensures.value)) (may_file to_output Schema c.args.schema.now SCHEMA_BYTES) (did_any _ _ _ _ c.in_ok-text.ensures) c.replay_schema.ensures

pub returns-in-None : goal.returns-in-None
returns-in-None g c = did_then_at _ (after_schema (codes "schema") (OfProfile (replays_by c.args.journal.now c.args.clients))) _ _ _ (text_view c.in_ok-text.field-0) None _ (ap text_view c.in-None.is) (may_file to_output Schema c.args.schema.now SCHEMA_BYTES) (did_any _ _ _ _ c.in_ok-text.ensures) (did_any _ _ _ _ c.tell.ensures)
