use Rattle.std.proofs.Common.{arith, ap, ◌∙◌}
use Rattle.tl_types.specs.Values.{list}
use Rattle.tl_types.proofs.Views.{view-List}
use Rattle.wire_values.specs.SavedClients.{saved_setting_tree}
use Rattle.wire_forms.proofs.Lists.{row_seen}
use Rattle.wire_values.proofs.saved_writer.saved_settings_value.Goals as goal

pub returns : goal.returns
returns c = view-List _ ∙ ap list (row_seen saved_setting_tree _ _ _ c.loop-setting.invariant (omega arith))
