use Rattle.update_replay.proofs.MadeRefusals.{each_is_made, made_offsets_are_low, one_is_made}
use Rattle.update_replay.proofs.laws.runs_are_made.Goals as goal

pub returns-clause-each : goal.returns-clause-each
returns-clause-each c = each_is_made

pub returns-clause-one : goal.returns-clause-one
returns-clause-one c = one_is_made

pub returns-clause-low : goal.returns-clause-low
returns-clause-low c = made_offsets_are_low
