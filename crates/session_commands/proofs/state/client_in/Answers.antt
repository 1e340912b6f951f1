use Rattle.std.proofs.Common.{arith}
use Rattle.session_commands.proofs.StateBytes.{client_given, saved_refused, some_bytes}
use Rattle.session_commands.proofs.state.client_in.Goals as goal

pub returns-in_err-saved-clause-gives : goal.returns-in_err-saved-clause-gives
returns-in_err-saved-clause-gives c =
    saved_refused c.args.profile.now c.args.bytes.now (some_bytes c.args.bytes.now c.is_empty.result c.is_empty.ensures c.if-is_empty.false) (omega (arith, c.if-bytes.false)) c.in_err-saved.field-0.0 c.from_residual.result c.in_err-saved.ensures.reads
    c.from_residual.ensures.1

pub returns-clause-gives : goal.returns-clause-gives
returns-clause-gives c =
    client_given c.args.profile.now c.args.bytes.now (some_bytes c.args.bytes.now c.is_empty.result c.is_empty.ensures c.if-is_empty.false) (omega (arith, c.if-bytes.false)) c.in_ok-saved.saved c.client_of.result c.in_ok-saved.ensures.reads
    c.client_of.ensures.loads
