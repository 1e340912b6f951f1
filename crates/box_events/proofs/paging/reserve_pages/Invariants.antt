use Rattle.std.proofs.Common.{◌+◌, ◌-◌, ◌≤◌, length, vec_len, vec_capacity}
use Rattle.box_events.specs.inner.Chains.{AreFresh}
use Rattle.box_events.proofs.paging.reserve_pages.Given as goal

abbrev pub invariant-loop-pages : goal.invariant-loop-pages
invariant-loop-pages l = record {
  fresh : AreFresh l.spares.items;
  few : vec_len l.spares ≤ l.number;
  room : l.number ≤ vec_capacity l.spares;
  slots : vec_len l.pages + l.number ≤ vec_capacity l.pages;
  more : length l.fn.spares.items ≤ length l.spares.items;
}

abbrev pub decreases-loop-pages : goal.decreases-loop-pages
decreases-loop-pages l = l.number - vec_len l.spares
