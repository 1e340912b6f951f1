use Rattle.std.proofs.Common.{List, is_some, ap, ◌∙◌}
use Rattle.channel_box.specs.States.{ChannelView, states, first}
use Rattle.channel_box.specs.Steps.{asks_number}
use Rattle.channel_box.proofs.Indexes.{asked_where}
use Rattle.channel_box.proofs.channels.Channels.asks.Goals as goal

pub returns : goal.returns
returns c = c.is_some.ensures ∙ asked_where (asks_number c.args.number) c.deref.result.now c.index_asking.result c.index_asking.ensures ∙ ap (λ (vs : List ChannelView). is_some (first (asks_number c.args.number) (states vs))) (c.deref.ensures.value ∙ c.self.view_is)
