use Rattle.headline.proofs.SessionHistories.{histories_are_sound, kept_runs_go_on, sessions_go_on}
use Rattle.headline.proofs.laws.servers_have_histories.Goals as goal

pub returns-clause-sound : goal.returns-clause-sound
returns-clause-sound c = histories_are_sound

pub returns-clause-serve : goal.returns-clause-serve
returns-clause-serve c = sessions_go_on

pub returns-clause-keep : goal.returns-clause-keep
returns-clause-keep c = kept_runs_go_on
