use Rattle.std.proofs.Common.{◌≡◌, ◌++◌}
use Rattle.wire_forms.specs.Parts.{each}
use Rattle.wire_values.specs.SavedClients.{event_in}
use Rattle.wire_values.specs.Coming.{coming}
use Rattle.wire_values.proofs.saved_reader.events_of.Given as goal

abbrev pub invariant-loop-item : goal.invariant-loop-item
invariant-loop-item l = l.events.items ++ each event_in (coming l.item-iterator) ≡ each event_in (coming l.fn.items)
