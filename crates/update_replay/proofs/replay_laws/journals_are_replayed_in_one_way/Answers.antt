use Rattle.update_replay.proofs.ReplayLaws.{long_journals_are_alike, replays_are_one, stopped_are_prefixes}
use Rattle.update_replay.proofs.replay_laws.journals_are_replayed_in_one_way.Goals as goal

pub returns-clause-one : goal.returns-clause-one
returns-clause-one c = replays_are_one

pub returns-clause-prefixes : goal.returns-clause-prefixes
returns-clause-prefixes c = stopped_are_prefixes

pub returns-clause-long : goal.returns-clause-long
returns-clause-long c = long_journals_are_alike
