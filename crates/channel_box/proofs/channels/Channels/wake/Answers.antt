use Rattle.std.proofs.Common.{refl, List, ap, ◌∙◌}
use Rattle.channel_box.specs.States.{ChannelView, states, ids_of}
use Rattle.channel_box.specs.Steps.{flagged}
use Rattle.channel_box.proofs.Ids.{ids_map}
use Rattle.channel_box.proofs.Whole.{whole_with}
use Rattle.channel_box.proofs.channels.Channels.wake.Goals as goal

pub invariant_of-self : goal.invariant_of-self
invariant_of-self c = whole_with c.self.inside c.wake_all.new.channels c.self.invariant
    (ap ids_of c.wake_all.ensures.step ∙ ids_map flagged (λ _. refl) (states c.deref_mut.result.now) ∙ ap (λ (vs : List ChannelView). ids_of (states vs)) c.deref_mut.ensures.value)
