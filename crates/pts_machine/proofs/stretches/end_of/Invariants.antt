use Rattle.std.proofs.Common.{◌≡◌, ◌+◌, take}
use Rattle.std.specs.List.{sum_by}
use Rattle.pts_machine.proofs.stretches.end_of.Given as goal

abbrev pub invariant-loop-event : goal.invariant-loop-event
invariant-loop-event g l = l.at ≡ l.fn.at + sum_by g.E.Counted.count (take l.event-index l.events)
