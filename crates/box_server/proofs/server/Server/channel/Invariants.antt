use Rattle.std.proofs.Common.{◌≡◌, map, drop}
use Rattle.box_server.specs.Servers.{channel_in}
use Rattle.box_server.specs.inner.Insides.{channel_view}
use Rattle.box_server.proofs.server.Server.channel.Given as goal

abbrev pub invariant-loop-channel : goal.invariant-loop-channel
invariant-loop-channel l = channel_in (map channel_view (drop l.channel-index l.channel-items)) l.id ≡ channel_in (map channel_view l.channel-items) l.id
