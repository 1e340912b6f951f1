use Rattle.tl_calls.proofs.Called.{each_variable_is_called}
use Rattle.tl_calls.proofs.CalledResults.{results_are_the_calls}
use Rattle.tl_calls.proofs.laws.results_are_the_calls.Goals as goal

pub returns : goal.returns
returns c = results_are_the_calls each_variable_is_called
