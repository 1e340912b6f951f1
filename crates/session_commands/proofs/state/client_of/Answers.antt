use Rattle.session_commands.proofs.StateBytes.{next_low}
use Rattle.session_commands.proofs.state.client_of.Goals as goal

pub returns-in-Ok-clause-next : goal.returns-in-Ok-clause-next
returns-in-Ok-clause-next c = next_low c.args.saved c.in-Ok.client c.in-Ok.ensures.ok
