use Rattle.outside.proofs.Fitting as fitting
use Rattle.outside.proofs.laws.files_are_read.Goals as goal

pub returns : goal.returns
returns c = fitting.files_are_read
