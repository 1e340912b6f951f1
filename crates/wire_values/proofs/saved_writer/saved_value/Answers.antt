use Rattle.std.proofs.Common.{ap, ◌∙◌, ◌≡◌, subst, IfOk}
use Rattle.tl_types.specs.Seen.{view}
use Rattle.tl_types.specs.Values.{list}
use Rattle.wire_forms.specs.Parts.{row}
use Rattle.wire_values.specs.SavedClients.{saved_setting_tree, saved_channel_tree}
use Rattle.wire_values.proofs.SavedFields.{client_fields}
use Rattle.wire_values.proofs.saved_writer.saved_value.Goals as goal

pub returns : goal.returns
returns c =
    subst (λ t. IfOk c.node.result (λ v. view v ≡ t))
    (client_fields _ _ _ _ _ _ _ _ _ _ _ _ _ _ _ _ c.number.ensures c.number-2.ensures c.in_ok-lane_value.ensures c.in_ok-lane_value-2.ensures c.number-3.ensures c.number-4.ensures
    (c.in_ok-saved_settings_value.ensures ∙ ap (λ xs. list (row saved_setting_tree xs)) c.as_slice.ensures)
    (c.in_ok-saved_channels_value.ensures ∙ ap (λ xs. list (row saved_channel_tree xs)) c.as_slice-2.ensures))
    c.node.ensures
