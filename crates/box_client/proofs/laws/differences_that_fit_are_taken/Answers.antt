use Rattle.box_client.proofs.Takes.{takes_what_fits}
use Rattle.box_client.proofs.laws.differences_that_fit_are_taken.Goals as goal

pub returns : goal.returns
returns c = takes_what_fits
