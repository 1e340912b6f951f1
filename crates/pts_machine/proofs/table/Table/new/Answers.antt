use Rattle.pts_machine.proofs.RowSteps.{values_none}
use Rattle.pts_machine.proofs.table.Table.new.Goals as goal

pub returns : goal.returns
returns c = rw c.new.ensures.items values_none
