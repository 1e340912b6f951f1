use Rattle.std.proofs.Common.{arith, ap, ◌∙◌}
use Rattle.tl_types.specs.Values.{text, list}
use Rattle.tl_types.proofs.Views.{view-List}
use Rattle.wire_forms.proofs.Lists.{row_seen}
use Rattle.wire_forms.proofs.making.bodies_value.Goals as goal

pub returns : goal.returns
returns c = view-List _ ∙ ap list (row_seen text _ _ _ c.loop-body.invariant (omega arith))
