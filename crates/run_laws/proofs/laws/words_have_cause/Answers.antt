use Rattle.run_laws.proofs.Counted.{failures_are_counted}
use Rattle.run_laws.proofs.Touching.{words_have_cause}
use Rattle.run_laws.proofs.laws.words_have_cause.Goals as goal

pub returns-clause-caused : goal.returns-clause-caused
returns-clause-caused c = words_have_cause

pub returns-clause-counted : goal.returns-clause-counted
returns-clause-counted c = failures_are_counted
