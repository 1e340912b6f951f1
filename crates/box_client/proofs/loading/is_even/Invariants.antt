use Rattle.std.proofs.Common.{◌≡◌, ◌+◌, take}
use Rattle.std.specs.List.{sum_by}
use Rattle.box_events.specs.Events.{count_of}
use Rattle.box_client.proofs.loading.is_even.Given as goal

abbrev pub invariant-loop-event : goal.invariant-loop-event
invariant-loop-event l = l.left + (l.lane.restart + sum_by count_of (take l.event-index l.lane.events)) ≡ l.lane.at
