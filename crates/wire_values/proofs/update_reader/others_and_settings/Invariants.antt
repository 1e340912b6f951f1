use Rattle.std.proofs.Common.{◌≡◌, ◌++◌}
use Rattle.wire_forms.specs.Parts.{each}
use Rattle.wire_values.specs.Coming.{coming}
use Rattle.wire_values.specs.Others.{others_of, settings_of}
use Rattle.wire_values.specs.Updates.{placed_in, setting_in}
use Rattle.wire_values.proofs.update_reader.others_and_settings.Given as goal

abbrev pub invariant-loop-item : goal.invariant-loop-item
invariant-loop-item l = record {
  others : l.others.items ++ each placed_in (others_of (coming l.item-iterator)) ≡ each placed_in (others_of (coming l.fn.items));
  settings : l.settings.items ++ each setting_in (settings_of (coming l.item-iterator)) ≡ each setting_in (settings_of (coming l.fn.items));
}
