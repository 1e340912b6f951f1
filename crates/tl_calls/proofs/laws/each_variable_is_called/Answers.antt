use Rattle.tl_calls.proofs.Called.{each_variable_is_called}
use Rattle.tl_calls.proofs.laws.each_variable_is_called.Goals as goal

pub returns : goal.returns
returns c = each_variable_is_called
