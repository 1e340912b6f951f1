use Rattle.outside.proofs.Fitting as fitting
use Rattle.outside.proofs.laws.reads_fail_alone.Goals as goal

pub returns : goal.returns
returns c = fitting.reads_fail_alone
