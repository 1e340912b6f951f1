use Rattle.box_server.proofs.Carrying.{changed_overlays}
use Rattle.box_world.proofs.Streams as streams
use Rattle.box_world.proofs.laws.honest_streams_agree.Goals as goal

pub returns : goal.returns
returns c = streams.honest_streams_agree changed_overlays
