use Rattle.std.proofs.Common.{sym, ap, subst, false}
use Rattle.channel_box.specs.States.{states}
use Rattle.box_client.specs.Insides.{IsSteady}
use Rattle.box_client.proofs.Stays.{stays_new}
use Rattle.box_client.proofs.client.Client.new.Goals as goal

pub invariant_of-result : goal.invariant_of-result
invariant_of-result c =
    let channels = ap states c.new-4.ensures in
    subst IsSteady (sym (λ i. record { next = 1; common = c.new.ensures i; secret = c.new-2.ensures i; settings = c.new-3.ensures i; flag = false; channels = channels i })) stays_new
