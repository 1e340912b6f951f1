use Rattle.update_replay.proofs.Summing.{summaries_are_of_runs}
use Rattle.update_replay.proofs.world_laws.summaries_are_of_runs.Goals as goal

pub returns : goal.returns
returns c = summaries_are_of_runs
