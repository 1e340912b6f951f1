use Rattle.std.proofs.Common.{arith, append_assoc}
use Rattle.std.proofs.lemmas.Grind.{common_steps}
use Rattle.report_lines.proofs.events.put_event.Goals as goal

pub returns : goal.returns
returns c = grind (arith, common_steps, append_assoc)
