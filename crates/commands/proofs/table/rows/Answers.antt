use Rattle.std.proofs.Common.{refl}
use Rattle.commands.proofs.table.rows.Goals as goal

pub returns : goal.returns
returns c = refl
