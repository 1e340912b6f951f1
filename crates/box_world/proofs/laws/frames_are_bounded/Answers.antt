use Rattle.box_server.proofs.Carrying.{changed_overlays}
use Rattle.box_world.proofs.Histories as histories
use Rattle.box_world.proofs.laws.frames_are_bounded.Goals as goal

pub returns : goal.returns
returns c = histories.frames_are_bounded changed_overlays
