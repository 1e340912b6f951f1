use Rattle.tl_schema.proofs.ResultsFormed.{results_are_formed}
use Rattle.tl_calls.proofs.Answered.{answered_in_formed}
use Rattle.tl_calls.proofs.OneLog.{each_has_one_log}
use Rattle.tl_calls.proofs.laws.each_list_has_one_log.Goals as goal

pub returns : goal.returns
returns c = each_has_one_log (answered_in_formed results_are_formed)
