use Rattle.std.proofs.Common.{◌≡◌, ◌++◌, take, map}
use Rattle.tl_types.specs.Seen.{view}
use Rattle.wire_values.specs.Updates.{setting_tree}
use Rattle.wire_values.proofs.update_writer.with_settings.Given as goal

abbrev pub invariant-loop-setting : goal.invariant-loop-setting
invariant-loop-setting l = map view l.items.items ≡ map view l.fn.values.items ++ map setting_tree (take l.setting-index l.settings)
