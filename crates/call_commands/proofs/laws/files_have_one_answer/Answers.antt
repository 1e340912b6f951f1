use Rattle.call_commands.proofs.EachCalls.{each_has_one_answer}
use Rattle.call_commands.proofs.laws.files_have_one_answer.Goals as goal

pub returns : goal.returns
returns c = each_has_one_answer
