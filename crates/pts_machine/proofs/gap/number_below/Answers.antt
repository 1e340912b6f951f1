use Rattle.pts_machine.proofs.Rises.{from_index, from_missed}
use Rattle.pts_machine.proofs.gap.number_below.Goals as goal

pub returns-in-Ok-clause-rest : goal.returns-in-Ok-clause-rest
returns-in-Ok-clause-rest g c = from_index c.args.items.now.items c.args.at c.in-Ok.i c.requires.rising c.in-Ok.ensures.index

pub returns-in-Err-clause-rest : goal.returns-in-Err-clause-rest
returns-in-Err-clause-rest g c = from_missed c.args.items.now.items c.args.at c.in-Err.i c.in-Err.ensures.index
