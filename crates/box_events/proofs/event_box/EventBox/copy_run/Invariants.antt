use Rattle.std.proofs.Common.{◌≡◌, ◌+◌, ◌≤◌, ◌++◌, take}
use Rattle.box_events.specs.Boxes.{ending}
use Rattle.box_events.proofs.event_box.EventBox.copy_run.Given as goal

abbrev pub invariant-loop-event : goal.invariant-loop-event
invariant-loop-event l = record {
  so_far : l.copies.items ≡ l.fn.copies.items ++ take l.event-index l.run;
  stop : l.end ≡ l.at + ending (take l.event-index l.run);
  within : l.end ≤ l.to;
}
