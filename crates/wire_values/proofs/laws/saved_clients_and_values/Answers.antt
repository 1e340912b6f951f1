use Rattle.wire_values.proofs.SavedValues.{saved_same, saved_back, saved_is, saved_fits}
use Rattle.wire_values.proofs.laws.saved_clients_and_values.Goals as goal

pub returns-clause-same : goal.returns-clause-same
returns-clause-same c = saved_same

pub returns-clause-back : goal.returns-clause-back
returns-clause-back c = saved_back

pub returns-clause-read : goal.returns-clause-read
returns-clause-read c = saved_is

pub returns-clause-fit : goal.returns-clause-fit
returns-clause-fit c = saved_fits
