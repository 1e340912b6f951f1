use Rattle.channel_box.specs.States.{states}
use Rattle.box_client.proofs.Loadings.{Loading}
use Rattle.box_client.proofs.loading.load_channels.Given as goal

abbrev pub invariant-loop-channel : goal.invariant-loop-channel
invariant-loop-channel l = Loading l.fn.saved (states l.channels) l.channel-iterator.rest.items
