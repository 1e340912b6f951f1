use Rattle.std.proofs.Common.{◌≡◌, ◌+◌, drop}
use Rattle.std.specs.VecDeque.{deque_len, deque_capacity}
use Rattle.pts_machine.proofs.gap.drop_first.Given as goal

abbrev pub invariant-loop : goal.invariant-loop
invariant-loop g l = record {
  items : l.items.items ≡ drop l.counter l.fn.items.items;
  len : deque_len l.items + l.counter ≡ deque_len l.fn.items;
  capacity : deque_capacity l.items ≡ deque_capacity l.fn.items;
}
