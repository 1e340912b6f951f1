use Rattle.std.proofs.Common.{◌≡◌, ◌++◌, drop, map}
use Rattle.channel_box.specs.States.{states}
use Rattle.box_client.specs.Numbers.{channel_numbers}
use Rattle.report_lines.specs.Texts.{channel_positions}
use Rattle.report_lines.proofs.positions.put_channels.Given as goal

abbrev pub invariant-loop-id : goal.invariant-loop-id
invariant-loop-id l = l.lines.items ++ channel_positions (map channel_numbers (drop l.id-index (states l.channels))) ≡ l.fn.lines.items ++ channel_positions (map channel_numbers (states l.channels))
