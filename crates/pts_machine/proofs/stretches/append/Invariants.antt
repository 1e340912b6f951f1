use Rattle.std.proofs.Common.{◌≡◌, ◌≤◌, ◌+◌, ◌++◌, vec_len, vec_capacity}
use Rattle.std.specs.List.{sum_by}
use Rattle.pts_machine.proofs.stretches.append.Given as goal

abbrev pub invariant-loop-event : goal.invariant-loop-event
invariant-loop-event g l = let rest = l.event-iterator.rest.items in record {
  all : l.into.items ++ rest ≡ l.fn.into.items ++ l.fn.events.items;
  sum : l.at + sum_by g.E.Counted.count rest ≡ l.fn.at + sum_by g.E.Counted.count l.fn.events.items;
  len : vec_len l.into + l.event-iterator.rest.len ≡ vec_len l.fn.into + vec_len l.fn.events;
  capacity : vec_capacity l.fn.into ≤ vec_capacity l.into;
}
