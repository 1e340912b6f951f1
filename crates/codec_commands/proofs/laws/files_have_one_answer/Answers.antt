use Rattle.codec_commands.proofs.EachLayers.{each_has_one_answer}
use Rattle.codec_commands.proofs.laws.files_have_one_answer.Goals as goal

pub returns : goal.returns
returns c = each_has_one_answer
