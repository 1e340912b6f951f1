use Rattle.std.proofs.Common.{◌≡◌, take, map}
use Rattle.tl_types.specs.Seen.{view}
use Rattle.wire_values.specs.SavedClients.{event_tree}
use Rattle.wire_values.proofs.saved_writer.events_value.Given as goal

abbrev pub invariant-loop-event : goal.invariant-loop-event
invariant-loop-event l = map view l.items.items ≡ map event_tree (take l.event-index l.events)
