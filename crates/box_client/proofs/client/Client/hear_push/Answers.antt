use Rattle.box_client.proofs.Stays.{stays_kept}
use Rattle.box_client.specs.Views.{client_of}
use Rattle.box_client.proofs.client.Client.hear_push.Goals as goal

pub invariant_of-self : goal.invariant_of-self
invariant_of-self c = stays_kept (client_of c.self.inside.parts) c.args.push c.hear_push.result (client_of c.hear_push.new.parts) c.self.invariant c.hear_push.ensures.ok c.hear_push.ensures.err
