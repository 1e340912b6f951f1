use Rattle.std.proofs.Common.{refl, Some, None}
use Rattle.commands.specs.Requests.{sessions_range}
use Rattle.commands.proofs.NumberWords.{found_number}
use Rattle.commands.proofs.request.sessions_in.Goals as goal

pub returns-in-Some : goal.returns-in-Some
returns-in-Some c = found_number sessions_range c.args.word.now (Some c.in-Some.sessions) c.in-Some.ensures _ refl

pub returns-in-None : goal.returns-in-None
returns-in-None c = found_number sessions_range c.args.word.now None c.in-None.ensures _ refl
