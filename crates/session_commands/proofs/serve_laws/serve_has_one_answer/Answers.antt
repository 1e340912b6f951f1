use Rattle.session_commands.proofs.EachServe.{each_serve}
use Rattle.session_commands.proofs.OneServe.{one_serve}
use Rattle.session_commands.proofs.serve_laws.serve_has_one_answer.Goals as goal

pub returns-clause-one : goal.returns-clause-one
returns-clause-one c = one_serve

pub returns-clause-there : goal.returns-clause-there
returns-clause-there c = each_serve
