use Rattle.std.proofs.Common.{arith, ap, ◌∙◌}
use Rattle.tl_types.specs.Values.{list}
use Rattle.tl_types.proofs.Views.{view-List}
use Rattle.wire_values.specs.SavedClients.{event_tree}
use Rattle.wire_forms.proofs.Lists.{row_seen}
use Rattle.wire_values.proofs.saved_writer.events_value.Goals as goal

pub returns : goal.returns
returns c = view-List _ ∙ ap list (row_seen event_tree _ _ _ c.loop-event.invariant (omega arith))
