use Rattle.headline.proofs.KeepEnding.{kept_clients_meet, kept_runs_meet}
use Rattle.headline.proofs.laws.kept_runs_meet.Goals as goal

pub returns-clause-one : goal.returns-clause-one
returns-clause-one c = kept_runs_meet

pub returns-clause-two : goal.returns-clause-two
returns-clause-two c = kept_clients_meet
