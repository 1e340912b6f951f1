use Rattle.std.proofs.Common.{◌≡◌, ◌≤◌, map, length, vec_len}
use Rattle.box_server.specs.inner.Insides.{channel_view}
use Rattle.box_server.specs.inner.Rooms.{HaveRoom, HaveEnds, grown}
use Rattle.box_server.proofs.room.append_each.Given as goal

abbrev pub invariant-loop-tail : goal.invariant-loop-tail
invariant-loop-tail l = record {
  all : length l.tails.items ≤ length l.channels.items;
  room : HaveRoom (length l.tails.items) l.channels.items l.tails.items;
  ends : HaveEnds (length l.tails.items) l.channels.items l.tails.items;
  goes : grown (map channel_view l.channels.items) l.tails.items ≡ grown (map channel_view l.fn.channels.items) l.fn.tails.items;
}

abbrev pub decreases-loop-tail : goal.decreases-loop-tail
decreases-loop-tail l = vec_len l.tails
