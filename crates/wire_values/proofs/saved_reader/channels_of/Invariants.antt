use Rattle.std.proofs.Common.{◌≡◌, ◌++◌}
use Rattle.wire_forms.specs.Parts.{each}
use Rattle.wire_values.specs.SavedClients.{saved_channel_in}
use Rattle.wire_values.specs.Coming.{coming}
use Rattle.wire_values.proofs.saved_reader.channels_of.Given as goal

abbrev pub invariant-loop-item : goal.invariant-loop-item
invariant-loop-item l = l.channels.items ++ each saved_channel_in (coming l.item-iterator) ≡ each saved_channel_in (coming l.fn.items)
