use Rattle.std.proofs.Common.{sym, subst}
use Rattle.box_client.specs.Insides.{IsSteady}
use Rattle.box_client.proofs.Stays.{stays_loaded}
use Rattle.box_client.proofs.Loadings.{next_of, lanes_of}
use Rattle.box_client.proofs.Restarts.{loads_again}
use Rattle.box_client.proofs.client.Client.load.Goals as goal

pub invariant_of-result : goal.invariant_of-result
invariant_of-result c =
    let loads = c.in_ok-parts.ensures.ok in
    subst IsSteady (sym loads.client) (stays_loaded c.args.saved (next_of c.args.saved loads.cause) (lanes_of c.args.saved loads.cause).2)

pub returns-clause-restarts : goal.returns-clause-restarts
returns-clause-restarts c = λ c1 is. loads_again c1 _ c.args.saved is c.in_ok-parts.ensures.ok
