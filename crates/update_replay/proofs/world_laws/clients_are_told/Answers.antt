use Rattle.update_replay.proofs.OwnLines.{closings_are_own}
use Rattle.update_replay.proofs.Telling.{clients_are_told}
use Rattle.update_replay.proofs.world_laws.clients_are_told.Goals as goal

pub returns-clause-told : goal.returns-clause-told
returns-clause-told c = clients_are_told

pub returns-clause-lines : goal.returns-clause-lines
returns-clause-lines c = closings_are_own
