use Rattle.tl_schema.proofs.ClosedFormed.{closing_keeps_formed}
use Rattle.tl_schema.proofs.laws.closing_keeps_formed.Goals as goal

pub returns : goal.returns
returns c = closing_keeps_formed
