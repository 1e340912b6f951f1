use Rattle.update_replay.proofs.NextNumbers.{new_packets_are_added, steps_are_of_runs}
use Rattle.update_replay.proofs.world_laws.steps_are_told.Goals as goal

pub returns-clause-added : goal.returns-clause-added
returns-clause-added c = new_packets_are_added

pub returns-clause-run : goal.returns-clause-run
returns-clause-run c = steps_are_of_runs
