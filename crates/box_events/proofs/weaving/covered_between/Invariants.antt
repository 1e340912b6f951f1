use Rattle.std.proofs.Common.{◌≡◌, ◌≤◌, ◌+◌, drop}
use Rattle.box_events.specs.Refusal.{overlap, counts}
use Rattle.box_events.proofs.weaving.covered_between.Given as goal

abbrev pub invariant-loop-placed : goal.invariant-loop-placed
invariant-loop-placed l = record {
  apart : overlap l.at l.to (drop l.placed-index l.others) ≡ overlap l.from l.to l.others;
  sum : l.counts + counts (drop l.placed-index l.others) ≡ counts l.others;
  few : l.counts ≤ l.at;
  low : l.counts ≤ l.to;
}
