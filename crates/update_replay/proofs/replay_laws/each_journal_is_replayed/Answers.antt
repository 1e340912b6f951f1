use Rattle.update_replay.proofs.ReplayLaws.{each_journal_is_replayed}
use Rattle.update_replay.proofs.replay_laws.each_journal_is_replayed.Goals as goal

pub returns : goal.returns
returns c = each_journal_is_replayed
