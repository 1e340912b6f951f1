use Rattle.update_commands.proofs.OneMake.{each_has_one_made}
use Rattle.update_commands.proofs.laws.made_runs_have_one_answer.Goals as goal

pub returns : goal.returns
returns c = each_has_one_made
