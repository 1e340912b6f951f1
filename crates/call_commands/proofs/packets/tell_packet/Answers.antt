use Rattle.call_commands.proofs.ToldFaults.{unnumbered}
use Rattle.call_commands.proofs.packets.tell_packet.Goals as goal

pub returns-in_default-clause-tells : goal.returns-in_default-clause-tells
returns-in_default-clause-tells c = unnumbered c.args.schema.now c.args.calls.now c.args.at c.args.content.now c.placed.result c.requires.whole c.in_default.ensures c.placed.ensures
