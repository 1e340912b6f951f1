use Rattle.box_world.proofs.ReadClients.{clients_taken}
use Rattle.session_commands.proofs.StateBytes.{no_saved_told}
use Rattle.session_commands.proofs.state.saved_in.Goals as goal

pub returns-in-Ok-clause-range : goal.returns-in-Ok-clause-range
returns-in-Ok-clause-range c = clients_taken c.args.profile.now c.requires.sound c.in-Ok.saved c.args.bytes.now c.in-Ok.ensures.given.0 c.in-Ok.ensures.given.1

pub returns-in-Err-Refused-clause-reads : goal.returns-in-Err-Refused-clause-reads
returns-in-Err-Refused-clause-reads c = no_saved_told c.args.profile.now c.args.bytes.now c.in-Err-Refused.cause c.wire_line.result c.of_line.result (rw c.in-Err-Refused.field-0-is at c.in-Err-Refused.ensures.told) c.wire_line.ensures c.of_line.ensures
