use Rattle.std.proofs.Common.{◌≡◌, ◌+◌, ◌≤◌, ◌++◌, vec_len, vec_capacity}
use Rattle.box_server.proofs.room.grow.Given as goal

abbrev pub invariant-loop-channel : goal.invariant-loop-channel
invariant-loop-channel l = record {
  all : l.channels.items ++ l.channel-iterator.rest.items ≡ l.fn.channels.items ++ l.fn.opened.items;
  places : vec_len l.channels + l.channel-iterator.rest.len ≤ vec_capacity l.channels;
}
