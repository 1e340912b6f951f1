use Rattle.std.proofs.Common.{◌≡◌, ◌++◌, drop}
use Rattle.report_lines.specs.Closing.{setting_lines}
use Rattle.report_lines.proofs.closing.put_all.Given as goal

abbrev pub invariant-loop-setting : goal.invariant-loop-setting
invariant-loop-setting l = l.lines.items ++ setting_lines (drop l.setting-index l.settings) ≡ l.fn.lines.items ++ setting_lines l.settings
