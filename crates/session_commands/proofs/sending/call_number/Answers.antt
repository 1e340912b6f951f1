use Rattle.session_commands.proofs.Calls.{no_call_told}
use Rattle.session_commands.proofs.sending.call_number.Goals as goal

pub returns-in-Err-Refused-clause-numbers : goal.returns-in-Err-Refused-clause-numbers
returns-in-Err-Refused-clause-numbers c =
    no_call_told c.args.profile.now c.args.bytes.now c.in-Err-Refused.cause c.wire_line.result c.of_line.result (rw (c.in-Err-Refused.field-0-is, c.as_slice.ensures.value) at c.in-Err-Refused.ensures.told) c.wire_line.ensures c.of_line.ensures
