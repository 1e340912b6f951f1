use Rattle.std.proofs.Common.{sym, subst}
use Rattle.box_client.specs.Insides.{IsSteady}
use Rattle.box_client.proofs.Stays.{stays_ticks}
use Rattle.box_client.specs.Views.{client_of}
use Rattle.box_client.proofs.client.Client.tick.Goals as goal

pub invariant_of-self : goal.invariant_of-self
invariant_of-self c = subst IsSteady (sym c.tick.ensures.step) (stays_ticks (client_of c.self.inside.parts) c.self.invariant)
