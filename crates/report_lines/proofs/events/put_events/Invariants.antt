use Rattle.std.proofs.Common.{◌≡◌, ◌+◌, ◌≤◌, ◌++◌, drop}
use Rattle.box_events.specs.Boxes.{ending}
use Rattle.box_events.specs.declared.limits.TheConstants.{MAX_END}
use Rattle.report_lines.specs.Closing.{event_lines}
use Rattle.report_lines.proofs.events.put_events.Given as goal

abbrev pub invariant-loop-event : goal.invariant-loop-event
invariant-loop-event l = record {
  limit : l.end + ending (drop l.event-index l.events) ≤ MAX_END;
  lines : l.lines.items ++ event_lines l.end (drop l.event-index l.events) ≡ l.fn.lines.items ++ event_lines l.fn.restart l.events;
}
