use Rattle.box_world.proofs.DatedClients.{clients_stay_dated}
use Rattle.box_world.proofs.ReadClients.{clients_taken}
use Rattle.box_world.proofs.ReadDates.{clients_dated, frames_dated}
use Rattle.box_world.proofs.ReadFrames.{frames_taken}
use Rattle.box_world.proofs.frame_laws.what_is_read_is_taken.Goals as goal

pub returns-clause-frames : goal.returns-clause-frames
returns-clause-frames c = frames_taken

pub returns-clause-clients : goal.returns-clause-clients
returns-clause-clients c = clients_taken

pub returns-clause-dated : goal.returns-clause-dated
returns-clause-dated c = frames_dated

pub returns-clause-clients_dated : goal.returns-clause-clients_dated
returns-clause-clients_dated c = clients_dated

pub returns-clause-stay_dated : goal.returns-clause-stay_dated
returns-clause-stay_dated c = clients_stay_dated
