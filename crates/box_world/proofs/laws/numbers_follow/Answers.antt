use Rattle.box_server.proofs.Carrying.{changed_overlays}
use Rattle.box_world.proofs.NumberWorlds as worlds
use Rattle.box_world.proofs.laws.numbers_follow.Goals as goal

pub returns : goal.returns
returns c = worlds.numbers_follow changed_overlays
