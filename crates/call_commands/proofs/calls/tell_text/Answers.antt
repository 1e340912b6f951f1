use Rattle.std.proofs.Common.{codes}
use Rattle.codec_rooms.proofs.Typing.{text_read, text_refused}
use Rattle.call_commands.specs.CallsWork.{OfInput}
use Rattle.call_commands.proofs.Going.{can_input}
use Rattle.call_commands.proofs.calls.tell_text.Goals as goal

pub returns-in-Ok : goal.returns-in-Ok
returns-in-Ok g c = text_read (codes "schema") (OfInput c.args.input.now) c.args.text.now c.in-Ok.schema _ _ _ c.in-Ok.ensures c.tell_schema.ensures

pub returns-in-Err : goal.returns-in-Err
returns-in-Err g c = text_refused (codes "schema") (OfInput c.args.input.now) (λ schema good. can_input c.args.input.now schema) c.args.text.now c.in-Err.fault _ _ _ c.in-Err.ensures c.print_made.ensures

pub tell_schema-requires : goal.tell_schema-requires
tell_schema-requires g c = c.in-Ok.ensures.good
