use Rattle.std.proofs.Common.{◌≡◌, ◌++◌, drop}
use Rattle.report_lines.specs.Closing.{recent_lines}
use Rattle.report_lines.proofs.closing.put_recent.Given as goal

abbrev pub invariant-loop-body : goal.invariant-loop-body
invariant-loop-body l = l.lines.items ++ recent_lines (drop l.body-index l.bodies) ≡ l.fn.lines.items ++ recent_lines l.bodies
