use Rattle.pts_machine.proofs.Rises.{map_none}
use Rattle.pts_machine.proofs.gap.Gap.new.Goals as goal

pub returns : goal.returns
returns g c = rw c.new.ensures.items map_none
