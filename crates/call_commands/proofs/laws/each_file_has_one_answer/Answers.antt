use Rattle.call_commands.proofs.EachCalls.{each_file_has_one_answer}
use Rattle.call_commands.proofs.laws.each_file_has_one_answer.Goals as goal

pub returns : goal.returns
returns c = each_file_has_one_answer
