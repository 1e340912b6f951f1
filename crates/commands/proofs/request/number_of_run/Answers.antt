use Rattle.std.proofs.Common.{refl}
use Rattle.commands.specs.Requests.{run_range}
use Rattle.commands.proofs.NumberWords.{found_number}
use Rattle.commands.proofs.request.number_of_run.Goals as goal

pub returns : goal.returns
returns c = found_number run_range c.args.word.now c.number_in.result c.number_in.ensures _ refl
