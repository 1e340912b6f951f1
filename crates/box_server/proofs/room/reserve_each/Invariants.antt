use Rattle.std.proofs.Common.{◌≡◌, map}
use Rattle.box_server.specs.inner.Insides.{channel_view}
use Rattle.box_server.specs.inner.Rooms.{HaveRoom}
use Rattle.box_server.proofs.room.reserve_each.Given as goal

abbrev pub invariant-loop-i : goal.invariant-loop-i
invariant-loop-i l = (map channel_view l.channels.items ≡ map channel_view l.fn.channels.items) × HaveRoom l.i l.channels.items l.tails
