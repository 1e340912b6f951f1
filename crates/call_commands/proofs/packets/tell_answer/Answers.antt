use Rattle.std.proofs.Common.{arith}
use Rattle.call_commands.proofs.ToldEvents.{stale_told}
use Rattle.call_commands.proofs.packets.tell_answer.Goals as goal

pub returns-in_ok-stale_line-in-None-clause-tells : goal.returns-in_ok-stale_line-in-None-clause-tells
returns-in_ok-stale_line-in-None-clause-tells c =
    stale_told c.args.schema.now c.args.calls.now c.args.at c.args.number c.args.bytes.now c.in_ok-stale_line-in-None.field-0 (omega arith) c.requires.some (rw c.in-None.is at c.in_ok-of.ensures) c.in_ok-stale_line-in-None.ensures
