use Rattle.tl_schema.proofs.ResultsFormed.{results_are_formed}
use Rattle.tl_schema.proofs.laws.results_are_formed.Goals as goal

pub returns : goal.returns
returns c = results_are_formed
