use Rattle.std.proofs.Common.{arith, ap, ◌∙◌}
use Rattle.tl_types.specs.Values.{list}
use Rattle.tl_types.proofs.Views.{view-List}
use Rattle.wire_values.specs.Updates.{update_tree}
use Rattle.wire_forms.proofs.Lists.{row_seen}
use Rattle.wire_values.proofs.update_writer.updates_value.Goals as goal

pub returns : goal.returns
returns c = view-List _ ∙ ap list (row_seen update_tree _ _ _ c.loop-update.invariant (omega arith))
