use Rattle.outside.proofs.Fitting as fitting
use Rattle.outside.proofs.laws.writes_fail_full.Goals as goal

pub returns : goal.returns
returns c = fitting.writes_fail_full
