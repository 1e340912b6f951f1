use Rattle.outside.proofs.Fitting as fitting
use Rattle.outside.proofs.laws.writes_append.Goals as goal

pub returns : goal.returns
returns c = fitting.writes_append
