use Rattle.pts_machine.proofs.Rises.{map_none}
use Rattle.pts_machine.proofs.gap.Gap.clear.Goals as goal

pub returns-clause-rest : goal.returns-clause-rest
returns-clause-rest g c = rw c.clear.ensures.items map_none
