use Rattle.box_world.proofs.FittingClients.{clients_keep}
use Rattle.box_world.proofs.FittingFrames.{answers_have, pushes_have, receipts_have, refusals_have, warnings_have}
use Rattle.box_world.proofs.FittingSaved.{clients_are_saved, loaded_have}
use Rattle.box_world.proofs.FittingServers.{servers_keep}
use Rattle.box_world.proofs.FittingWorlds.{runs_fit}
use Rattle.box_world.proofs.frame_laws.what_is_sent_has_a_spelling.Goals as goal

pub returns-clause-servers : goal.returns-clause-servers
returns-clause-servers c = servers_keep

pub returns-clause-pushes : goal.returns-clause-pushes
returns-clause-pushes c = pushes_have

pub returns-clause-answers : goal.returns-clause-answers
returns-clause-answers c = answers_have

pub returns-clause-receipts : goal.returns-clause-receipts
returns-clause-receipts c = receipts_have

pub returns-clause-refusals : goal.returns-clause-refusals
returns-clause-refusals c = refusals_have

pub returns-clause-warnings : goal.returns-clause-warnings
returns-clause-warnings c = warnings_have

pub returns-clause-clients : goal.returns-clause-clients
returns-clause-clients c = clients_keep

pub returns-clause-saved : goal.returns-clause-saved
returns-clause-saved c = clients_are_saved

pub returns-clause-loaded : goal.returns-clause-loaded
returns-clause-loaded c = loaded_have

pub returns-clause-runs : goal.returns-clause-runs
returns-clause-runs c = runs_fit
