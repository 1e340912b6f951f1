use Rattle.wire_values.proofs.PostsAndSteps.{step_same, step_back, step_fits}
use Rattle.wire_values.proofs.laws.steps_and_values.Goals as goal

pub returns-clause-same : goal.returns-clause-same
returns-clause-same c = step_same

pub returns-clause-back : goal.returns-clause-back
returns-clause-back c = step_back

pub returns-clause-fit : goal.returns-clause-fit
returns-clause-fit c = step_fits
