use Rattle.std.proofs.Common.{◌≡◌, ◌++◌}
use Rattle.wire_forms.specs.Parts.{each}
use Rattle.wire_values.specs.Updates.{update_in}
use Rattle.wire_values.specs.Coming.{coming}
use Rattle.wire_values.proofs.update_reader.updates_of.Given as goal

abbrev pub invariant-loop-item : goal.invariant-loop-item
invariant-loop-item l = l.updates.items ++ each update_in (coming l.item-iterator) ≡ each update_in (coming l.fn.items)
