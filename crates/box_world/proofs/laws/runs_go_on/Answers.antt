use Rattle.box_world.proofs.OneMore.{clients_stay, possible_go_on, runs_go_on}
use Rattle.box_world.proofs.laws.runs_go_on.Goals as goal

pub returns-clause-step : goal.returns-clause-step
returns-clause-step c = runs_go_on

pub returns-clause-possible : goal.returns-clause-possible
returns-clause-possible c = possible_go_on

pub returns-clause-clients : goal.returns-clause-clients
returns-clause-clients c = clients_stay
