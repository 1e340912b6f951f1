use Rattle.std.proofs.Common.{arith, append_assoc}
use Rattle.std.proofs.lemmas.Grind.{common_steps}
use Rattle.box_client.proofs.Savings.{settings_are}
use Rattle.report_lines.proofs.closing.put_settings.Goals as goal

pub returns : goal.returns
returns c = grind (arith, common_steps, append_assoc, settings_are c.args.settings.now.state.table c.all.result.now c.all.ensures.rows)
