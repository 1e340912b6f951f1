use Rattle.std.proofs.Common.{List, ℕ, codes, Some, Ok, Err, arith, ap, ap₂, ◌∙◌}
use Rattle.tl_schema.specs.Schemas.{Declared}
use Rattle.tl_schema.specs.Types.{Shape}
use Rattle.tl_types.specs.Seen.{view}
use Rattle.tl_calls.specs.Results.{result_type}
use Rattle.schema_files.specs.Lines.{line_text}
use Rattle.call_commands.specs.inner.Tellings.{numbered_line}
use Rattle.call_commands.proofs.ToldEvents.{to_call, value_told}
use Rattle.call_commands.proofs.ToldFaults.{answer_unread, place_fits}
use Rattle.call_commands.proofs.packets.tell_value.Goals as goal

pub unread-requires : goal.unread-requires
unread-requires c =
    place_fits c.args.schema.now (result_type c.args.schema.now.decls c.requires.open.0) c.args.at c.args.bytes.now c.in-Err.fault c.requires.place
    (to_call c.args.schema.now c.args.calls.now c.answer.new.self c.args.at c.args.bytes.now c.args.number c.requires.open.0 (Err c.in-Err.fault) c.requires.open.1 c.in-Err.ensures.answers).0

pub returns-in-Err-clause-tells : goal.returns-in-Err-clause-tells
returns-in-Err-clause-tells c =
    answer_unread c.args.schema.now c.args.calls.now c.args.at c.args.bytes.now c.requires.place c.args.number c.requires.open.0 (omega arith) c.requires.open.1 c.in-Err.fault c.unread.result
    (to_call c.args.schema.now c.args.calls.now c.answer.new.self c.args.at c.args.bytes.now c.args.number c.requires.open.0 (Err c.in-Err.fault) c.requires.open.1 c.in-Err.ensures.answers).0 c.unread.ensures

pub returns-clause-tells : goal.returns-clause-tells
returns-clause-tells c =
    value_told c.args.schema.now c.args.calls.now c.answer.new.self c.args.at c.args.bytes.now c.args.number c.requires.open.0 c.in-Some.value c.in_ok-numbered_line.field-0 (omega arith) c.requires.open.1
    (to_call c.args.schema.now c.args.calls.now c.answer.new.self c.args.at c.args.bytes.now c.args.number c.requires.open.0 (Ok (Some c.in-Some.value)) c.requires.open.1 (rw c.in-Some.is at c.in-Ok.ensures.answers)).0 (rw c.in-Some.is at c.in-Ok.ensures.logs)
    (c.in_ok-numbered_line.ensures ∙ ap (λ (x : List ℕ). numbered_line (codes "answer") c.args.number x) (c.deref.ensures.value ∙ c.in_ok-line.ensures ∙ ap₂ (λ (s : Declared) (T : Shape). line_text s.decls T (view c.in-Some.value)) c.requires.same c.requires.open.2))
