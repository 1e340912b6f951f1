use Rattle.std.proofs.Common.{◌≡◌, map, length, take}
use Rattle.box_server.specs.inner.Insides.{channel_view}
use Rattle.box_server.specs.inner.Rooms.{HaveRoom, emptied}
use Rattle.box_server.proofs.room.open_each.Given as goal

abbrev pub invariant-loop-tail : goal.invariant-loop-tail
invariant-loop-tail l = (map channel_view l.channels.items ≡ map emptied (take l.tail-index l.tails)) × HaveRoom (length l.channels.items) l.channels.items l.tails
