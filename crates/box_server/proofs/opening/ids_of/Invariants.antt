use Rattle.std.proofs.Common.{◌≡◌, take, map}
use Rattle.box_server.specs.inner.Insides.{channel_view}
use Rattle.box_server.specs.inner.Opening.{ids_in}
use Rattle.box_server.proofs.opening.ids_of.Given as goal

abbrev pub invariant-loop-channel : goal.invariant-loop-channel
invariant-loop-channel l = l.ids.items ≡ ids_in (map channel_view (take l.channel-index l.channels))
