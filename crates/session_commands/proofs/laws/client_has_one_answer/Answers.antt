use Rattle.session_commands.proofs.EachClient.{each_client}
use Rattle.session_commands.proofs.OneRecovery.{one_recovery}
use Rattle.session_commands.proofs.laws.client_has_one_answer.Goals as goal

pub returns-clause-one : goal.returns-clause-one
returns-clause-one c = one_recovery

pub returns-clause-there : goal.returns-clause-there
returns-clause-there c = each_client
