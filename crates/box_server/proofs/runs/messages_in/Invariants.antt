use Rattle.std.proofs.Common.{◌-◌, map}
use Rattle.box_server.proofs.RunSteps.{Listing}
use Rattle.box_server.proofs.runs.messages_in.Given as goal

abbrev pub invariant-loop-event : goal.invariant-loop-event
invariant-loop-event l = Listing l.events l.at (map (λ b. b.now) l.messages.items)

abbrev pub decreases-loop-event : goal.decreases-loop-event
decreases-loop-event l = l.stop - l.at
