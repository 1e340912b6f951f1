use Rattle.std.proofs.Common.{◌≡◌, ◌++◌, drop}
use Rattle.channel_box.specs.States.{states}
use Rattle.report_lines.specs.Closing.{own_channels}
use Rattle.report_lines.proofs.closing.put_channels.Given as goal

abbrev pub invariant-loop-id : goal.invariant-loop-id
invariant-loop-id l = l.lines.items ++ own_channels l.number (drop l.id-index (states l.channels)) ≡ l.fn.lines.items ++ own_channels l.number (states l.channels)
