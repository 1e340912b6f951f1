use Rattle.box_client.specs.Replies.{replied}
use Rattle.box_client.proofs.Stays.{stays_replied, stays_answers}
use Rattle.box_client.specs.Views.{client_of}
use Rattle.box_client.proofs.client.Client.hear_reply.Goals as goal

pub invariant_of-self : goal.invariant_of-self
invariant_of-self c =
    let old = client_of c.self.inside.parts in
    stays_answers old (replied old c.args.number c.args.reply) c.hear_reply.result (client_of c.hear_reply.new.parts) c.self.invariant (stays_replied old c.args.number c.args.reply c.self.invariant) c.hear_reply.ensures.step
