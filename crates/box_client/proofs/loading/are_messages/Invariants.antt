use Rattle.std.proofs.Common.{◌≡◌, drop}
use Rattle.box_client.specs.Messages.{are_messages}
use Rattle.box_client.proofs.loading.are_messages.Given as goal

abbrev pub invariant-loop-event : goal.invariant-loop-event
invariant-loop-event l = are_messages (drop l.event-index l.events) ≡ are_messages l.events
