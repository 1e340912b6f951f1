use Rattle.std.proofs.Common.{◌≡◌, ◌+◌, ◌-◌, vec_len, vec_capacity}
use Rattle.std.specs.Vec.Iter.{into_iter_items, into_iter_len}
use Rattle.box_events.proofs.Moving.{Moving}
use Rattle.box_events.proofs.weaving.append_messages.Given as goal

abbrev pub invariant-loop : goal.invariant-loop
invariant-loop l = record {
  moving : Moving l.fn.events.items l.events.items (into_iter_items l.fn.news) (into_iter_items l.news) l.most (l.most - l.counter);
  len : vec_len l.events + into_iter_len l.news ≡ vec_len l.fn.events + into_iter_len l.fn.news;
  capacity : vec_capacity l.events ≡ vec_capacity l.fn.events;
}
