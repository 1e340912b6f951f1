use Rattle.std.proofs.Common.{[], Some, None, ap, sym, ◌∙◌}
use Rattle.std.proofs.lemmas.Result.{err_from_is_err_and}
use Rattle.tl_schema.specs.Seen.{shape}
use Rattle.outside.specs.Jobs.{making}
use Rattle.outside.specs.Pieces.{text_view}
use Rattle.tl_base.specs.declared.host.Slot.TheVariants.{Input}
use Rattle.schema_files.specs.declared.json_input.TheConstants.{JSON_BYTES}
use Rattle.outside.proofs.Begun.{may_file}
use Rattle.outside.proofs.Growing.{did_stop, did_then_at}
use Rattle.outside.proofs.Printed.{made_printed}
use Rattle.codec_commands.specs.Encode.{OfJson}
use Rattle.codec_commands.proofs.EachAnswer as each
use Rattle.codec_rooms.specs.Typed.{after_input}
use Rattle.codec_rooms.proofs.Encoding.{can_tell_json}
use Rattle.codec_rooms.proofs.encode.encode_file.Goals as goal

pub returns-in_err-text : goal.returns-in_err-text
returns-in_err-text g c =
    let S = c.args.plan.now.schema in
    let T = shape c.args.of.now in
    let p = err_from_is_err_and c.from_residual.result c.from_residual.ensures.1 in
    rw p.1 (did_stop _ (after_input OfJson S T) _ _ (can_tell_json S c.requires.good T c.requires.planned.formed) c.in_err-text.ensures)

pub returns-in-Some : goal.returns-in-Some
returns-in-Some g c =
    let S = c.args.plan.now.schema in
    let T = shape c.args.of.now in
    did_then_at _ (after_input OfJson S T) _ _ _ (text_view c.in_ok-text.field-0) (Some c.deref.result.now) _ (ap text_view c.in-Some.is ∙ sym (ap Some c.deref.ensures.value)) (may_file [] Input c.args.input.now JSON_BYTES) c.in_ok-text.ensures
    (made_printed (OfJson S T c.deref.result.now) (making c.spelled_text.result) _ _ _ (each.each_text S c.requires.good T c.requires.planned.formed c.deref.result.now) c.spelled_text.ensures c.print_made.ensures)

pub returns-in-None : goal.returns-in-None
returns-in-None g c =
    did_then_at _ (after_input OfJson c.args.plan.now.schema (shape c.args.of.now)) _ _ _ (text_view c.in_ok-text.field-0) None _ (ap text_view c.in-None.is) (may_file [] Input c.args.input.now JSON_BYTES) c.in_ok-text.ensures c.unread.ensures
