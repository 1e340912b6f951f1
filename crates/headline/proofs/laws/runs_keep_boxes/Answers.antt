use Rattle.headline.proofs.Finished.{finished_channels_reach, finished_reach}
use Rattle.headline.proofs.Forward.{clients_go_forward, runs_are_whole}
use Rattle.headline.proofs.Held.{runs_have_boxes}
use Rattle.headline.proofs.laws.runs_keep_boxes.Goals as goal

pub returns : goal.returns
returns c = record { boxes = runs_have_boxes; whole = runs_are_whole; forward = clients_go_forward; finished = finished_reach; channels_finished = finished_channels_reach }
