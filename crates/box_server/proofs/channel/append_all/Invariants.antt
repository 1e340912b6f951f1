use Rattle.std.proofs.Common.{◌≡◌, ◌+◌, ◌≤◌, ◌++◌}
use Rattle.box_events.specs.declared.limits.TheConstants.{MAX_END}
use Rattle.box_events.specs.Boxes.{ending}
use Rattle.box_events.specs.BoxViews.{end_of}
use Rattle.box_server.proofs.channel.append_all.Given as goal

abbrev pub invariant-loop-event : goal.invariant-loop-event
invariant-loop-event l = let rest = l.event-iterator.rest.items in record {
  first : l.to.first ≡ l.fn.to.first;
  events : l.to.events ++ rest ≡ l.fn.to.events ++ l.fn.events.items;
  room : l.event-iterator.rest.len ≤ l.to.spare;
  limit : end_of l.to + ending rest ≤ MAX_END;
}
