use Rattle.outside.proofs.Running.{ran}
use Rattle.update_commands.specs.ReplayWork.{replays}
use Rattle.update_commands.proofs.replay.run_replay.Goals as goal

pub returns : goal.returns
returns g c = ran _ (replays c.args.schema.now c.args.journal.now c.args.clients) _ _ _ c.replay_journal-done.result c.finish.result c.replay_journal-done.ensures c.finish.ensures
