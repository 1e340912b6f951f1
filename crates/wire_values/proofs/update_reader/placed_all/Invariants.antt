use Rattle.std.proofs.Common.{◌≡◌, ◌++◌}
use Rattle.wire_forms.specs.Parts.{each}
use Rattle.wire_values.specs.Updates.{placed_in}
use Rattle.wire_values.specs.Coming.{coming}
use Rattle.wire_values.proofs.update_reader.placed_all.Given as goal

abbrev pub invariant-loop-item : goal.invariant-loop-item
invariant-loop-item l = l.others.items ++ each placed_in (coming l.item-iterator) ≡ each placed_in (coming l.fn.items)
