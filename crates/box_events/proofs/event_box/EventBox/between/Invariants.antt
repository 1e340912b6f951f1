use Rattle.std.proofs.Common.{◌-◌, ◌≤◌}
use Rattle.box_events.specs.BoxViews.{BetweenOf}
use Rattle.box_events.proofs.event_box.EventBox.between.Given as goal

abbrev pub invariant-loop-at : goal.invariant-loop-at
invariant-loop-at l = record {
  stretch : BetweenOf l.self l.from l.at l.copies.items;
  within : l.at ≤ l.to;
}

abbrev pub decreases-loop-at : goal.decreases-loop-at
decreases-loop-at l = l.to - l.at
