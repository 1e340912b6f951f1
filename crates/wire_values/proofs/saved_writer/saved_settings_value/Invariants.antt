use Rattle.std.proofs.Common.{◌≡◌, take, map}
use Rattle.tl_types.specs.Seen.{view}
use Rattle.wire_values.specs.SavedClients.{saved_setting_tree}
use Rattle.wire_values.proofs.saved_writer.saved_settings_value.Given as goal

abbrev pub invariant-loop-setting : goal.invariant-loop-setting
invariant-loop-setting l = map view l.items.items ≡ map saved_setting_tree (take l.setting-index l.settings)
