use Rattle.update_replay.proofs.Told.{ends_are_told, steps_are_told}
use Rattle.update_replay.proofs.laws.lines_are_told.Goals as goal

pub returns-clause-steps : goal.returns-clause-steps
returns-clause-steps c = steps_are_told

pub returns-clause-ends : goal.returns-clause-ends
returns-clause-ends c = ends_are_told
