use Rattle.headline.proofs.LastAnswers.{honest_sessions_catch_up}
use Rattle.headline.proofs.LastChannels.{channels_catch_up}
use Rattle.headline.proofs.laws.honest_sessions_catch_up.Goals as goal

pub returns-clause-group : goal.returns-clause-group
returns-clause-group c = honest_sessions_catch_up

pub returns-clause-channels : goal.returns-clause-channels
returns-clause-channels c = channels_catch_up
