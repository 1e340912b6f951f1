use Rattle.std.proofs.Common.{◌≡◌, ◌++◌}
use Rattle.wire_forms.specs.Parts.{each, text_of}
use Rattle.wire_values.specs.Coming.{coming}
use Rattle.wire_values.proofs.lists.bodies_of.Given as goal

abbrev pub invariant-loop-item : goal.invariant-loop-item
invariant-loop-item l = l.bodies.items ++ each text_of (coming l.item-iterator) ≡ each text_of (coming l.fn.items)
