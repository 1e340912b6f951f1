use Rattle.std.proofs.Common.{◌≡◌, ◌≤◌, ◌+◌, ◌++◌, ℕ, None, length, vec_len, vec_capacity}
use Rattle.std.specs.Vec.Iter.{into_iter_items, into_iter_len}
use Rattle.box_events.specs.Refusal.{overlap}
use Rattle.box_events.specs.inner.Merging.{merged}
use Rattle.box_events.proofs.weaving.merge.Given as goal

abbrev pub invariant-loop-placed : goal.invariant-loop-placed
invariant-loop-placed l = record {
  merges : l.events.items ++ merged l.at (into_iter_items l.news) l.placed-iterator.rest.items ≡ merged l.from l.fn.news.items l.fn.others.items;
  room : vec_len l.events + (into_iter_len l.news + length l.placed-iterator.rest.items) ≤ vec_capacity l.events;
  apart : (to : ℕ) × (overlap l.at to l.placed-iterator.rest.items ≡ None);
}
