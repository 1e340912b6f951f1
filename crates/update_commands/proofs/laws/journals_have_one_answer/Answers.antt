use Rattle.update_commands.proofs.ProfiledFiles.{each_has_one}
use Rattle.update_commands.proofs.laws.journals_have_one_answer.Goals as goal

pub returns : goal.returns
returns c = each_has_one
