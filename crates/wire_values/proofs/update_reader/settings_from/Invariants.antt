use Rattle.std.proofs.Common.{◌≡◌, ◌++◌}
use Rattle.wire_forms.specs.Parts.{each}
use Rattle.wire_values.specs.Updates.{setting_in}
use Rattle.wire_values.specs.Coming.{coming}
use Rattle.wire_values.proofs.update_reader.settings_from.Given as goal

abbrev pub invariant-loop-item : goal.invariant-loop-item
invariant-loop-item l = l.settings.items ++ each setting_in (coming l.item-iterator) ≡ each setting_in (coming l.fn.items)
