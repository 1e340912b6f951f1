use Rattle.headline.proofs.Meeting.{loaded_ask_nothing, states_meet_servers}
use Rattle.headline.proofs.laws.states_meet_servers.Goals as goal

pub returns-clause-calm : goal.returns-clause-calm
returns-clause-calm c = loaded_ask_nothing

pub returns-clause-meet : goal.returns-clause-meet
returns-clause-meet c = states_meet_servers
