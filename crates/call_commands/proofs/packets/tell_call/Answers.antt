use Rattle.std.proofs.Common.{List, ℕ, codes, Ok, Err, ap, ap₂, ◌∙◌, subst}
use Rattle.tl_schema.specs.Schemas.{Declared}
use Rattle.tl_schema.specs.Types.{Shape}
use Rattle.tl_schema.specs.Types as type
use Rattle.tl_types.specs.Seen.{view}
use Rattle.tl_decode.specs.Wholes.{ReadsBytes}
use Rattle.schema_files.specs.Lines.{line_text}
use Rattle.call_commands.specs.inner.Tellings.{numbered_line}
use Rattle.call_commands.proofs.ToldEvents.{call_told, called}
use Rattle.call_commands.proofs.ToldFaults.{call_unread, call_unsent, place_fits}
use Rattle.call_commands.proofs.packets.tell_call.Goals as goal

pub unread-requires : goal.unread-requires
unread-requires c =
    place_fits c.args.schema.now type.call c.args.at c.args.bytes.now c.in-Err.fault c.requires.place (subst (λ (T : Shape). ReadsBytes c.args.schema.now T c.args.bytes.now (Err c.in-Err.fault)) called c.in-Err.ensures.whole)

pub returns-in-Err-clause-tells : goal.returns-in-Err-clause-tells
returns-in-Err-clause-tells c =
    call_unread c.args.schema.now c.args.calls.now c.args.at c.args.bytes.now c.requires.place c.in-Err.fault c.unread.result
    (subst (λ (T : Shape). ReadsBytes c.args.schema.now T c.args.bytes.now (Err c.in-Err.fault)) called c.in-Err.ensures.whole) c.unread.ensures

pub returns-in-Ok-send-clause-tells : goal.returns-in-Ok-send-clause-tells
returns-in-Ok-send-clause-tells c =
    call_told c.args.schema.now c.args.calls.now c.send.new.self c.args.at c.args.bytes.now (view c.in-Ok.call) c.in-Ok-send.number c.in_ok-numbered_line-in-Ok-send.field-0
    (subst (λ (T : Shape). ReadsBytes c.args.schema.now T c.args.bytes.now (Ok c.in-Ok.call)) called c.in-Ok.ensures.whole) c.in-Ok-send.ensures.sends c.in-Ok-send.ensures.logs
    (c.in_ok-numbered_line-in-Ok-send.ensures ∙ ap (λ (x : List ℕ). numbered_line (codes "call") c.in-Ok-send.number x) (c.deref.ensures.value ∙ c.in_ok-line.ensures ∙ ap₂ (λ (s : Declared) (T : Shape). line_text s.decls T (view c.in-Ok.call)) c.requires.same called))

pub returns-clause-tells : goal.returns-clause-tells
returns-clause-tells c =
    call_unsent c.args.schema.now c.args.calls.now c.args.at c.args.bytes.now (view c.in-Ok.call) (subst (λ (T : Shape). ReadsBytes c.args.schema.now T c.args.bytes.now (Ok c.in-Ok.call)) called c.in-Ok.ensures.whole)
    c.in-Err-send.fault c.send.new.self c.unsent.result c.in-Err-send.ensures.sends c.unsent.ensures
