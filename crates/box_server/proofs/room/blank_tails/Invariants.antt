use Rattle.std.proofs.Common.{◌≡◌, map, take}
use Rattle.box_server.specs.inner.Insides.{channel_view}
use Rattle.box_server.specs.inner.Rooms.{blank_tail}
use Rattle.box_server.proofs.room.blank_tails.Given as goal

abbrev pub invariant-loop-channel : goal.invariant-loop-channel
invariant-loop-channel l = l.tails.items ≡ map blank_tail (map channel_view (take l.channel-index l.channels))
