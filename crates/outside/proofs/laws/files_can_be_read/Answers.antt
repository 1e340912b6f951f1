use Rattle.outside.proofs.Fitting as fitting
use Rattle.outside.proofs.laws.files_can_be_read.Goals as goal

pub returns : goal.returns
returns c = fitting.files_can_be_read
