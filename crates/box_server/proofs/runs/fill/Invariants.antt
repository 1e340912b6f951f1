use Rattle.std.proofs.Common.{◌-◌}
use Rattle.box_events.specs.declared.limits.TheConstants.{RUN_EVENTS}
use Rattle.box_server.proofs.RunSteps.{Filling}
use Rattle.box_server.proofs.runs.fill.Given as goal

abbrev pub invariant-loop : goal.invariant-loop
invariant-loop l = Filling l.events l.from l.parts l.end (RUN_EVENTS - l.counter) l.left
