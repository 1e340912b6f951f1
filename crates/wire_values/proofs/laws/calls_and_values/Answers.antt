use Rattle.wire_values.proofs.CallsAndValues.{call_same, call_back, call_fits, call_served}
use Rattle.wire_values.proofs.laws.calls_and_values.Goals as goal

pub returns-clause-same : goal.returns-clause-same
returns-clause-same c = call_same

pub returns-clause-back : goal.returns-clause-back
returns-clause-back c = call_back

pub returns-clause-served : goal.returns-clause-served
returns-clause-served c = call_served

pub returns-clause-fit : goal.returns-clause-fit
returns-clause-fit c = call_fits
