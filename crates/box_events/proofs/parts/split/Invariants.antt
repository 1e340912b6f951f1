use Rattle.std.proofs.Common.{◌≡◌, take}
use Rattle.box_events.proofs.parts.split.Given as goal

abbrev pub invariant-loop-event : goal.invariant-loop-event
invariant-loop-event l = record {
  from : l.parts.from ≡ l.from;
  events : l.parts.events ≡ take l.event-index l.events;
}
