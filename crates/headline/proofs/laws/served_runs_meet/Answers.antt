use Rattle.headline.proofs.RunsMeeting.{served_runs_meet}
use Rattle.headline.proofs.TwoClients.{two_clients_meet}
use Rattle.headline.proofs.laws.served_runs_meet.Goals as goal

pub returns-clause-one : goal.returns-clause-one
returns-clause-one c = served_runs_meet

pub returns-clause-two : goal.returns-clause-two
returns-clause-two c = two_clients_meet
