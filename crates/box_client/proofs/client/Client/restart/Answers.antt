use Rattle.std.proofs.Common.{sym, subst}
use Rattle.box_client.specs.Insides.{IsSteady}
use Rattle.box_client.proofs.Stays.{stays_restarted}
use Rattle.box_client.specs.Views.{client_of}
use Rattle.box_client.proofs.client.Client.restart.Goals as goal

pub invariant_of-self : goal.invariant_of-self
invariant_of-self c = subst IsSteady (sym c.restart.ensures.step) (stays_restarted (client_of c.self.inside.parts) c.self.invariant)
