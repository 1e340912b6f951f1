use Rattle.tl_schema.proofs.ResultsFormed.{results_are_formed}
use Rattle.tl_calls.proofs.Answered.{answered_in_formed}
use Rattle.tl_calls.proofs.laws.answers_are_formed.Goals as goal

pub returns : goal.returns
returns c = answered_in_formed results_are_formed
