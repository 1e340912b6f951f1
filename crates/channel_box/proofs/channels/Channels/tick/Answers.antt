use Rattle.std.proofs.Common.{List, ap, ◌∙◌}
use Rattle.channel_box.specs.States.{ChannelView, states, ids_of}
use Rattle.channel_box.proofs.Ids.{ids_ticked}
use Rattle.channel_box.proofs.Whole.{whole_with}
use Rattle.channel_box.proofs.channels.Channels.tick.Goals as goal

pub invariant_of-self : goal.invariant_of-self
invariant_of-self c = whole_with c.self.inside c.tick_all.new.channels c.self.invariant
    (ap ids_of c.tick_all.ensures.step ∙ ids_ticked c.args.next (states c.deref_mut.result.now) ∙ ap (λ (vs : List ChannelView). ids_of (states vs)) c.deref_mut.ensures.value)
