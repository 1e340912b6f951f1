use Rattle.session_commands.proofs.OneRun.{runs_are_one}
use Rattle.session_commands.proofs.kept_laws.runs_of_keep_are_one_of_serve.Goals as goal

pub returns : goal.returns
returns c = runs_are_one
