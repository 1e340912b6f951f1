use Rattle.std.proofs.Common.{◌∙◌, ap, refl, subst}
use Rattle.tl_types.specs.Seen.{view}
use Rattle.tl_types.specs.Values.{ValueView}
use Rattle.wire_profile.specs.Indexes.{cell_shape}
use Rattle.wire_profile.specs.SpelledForms.{placed}
use Rattle.wire_values.specs.Frames.{frame_tree}
use Rattle.box_wire.specs.Kinds.{frames}
use Rattle.box_wire.specs.inner.Wholes.{IsSpelling}
use Rattle.box_wire.proofs.FrameLaws.{frame_formed}
use Rattle.box_wire.proofs.Roots.{of_root}
use Rattle.box_wire.proofs.Spellings.{spelled_by}
use Rattle.box_wire.proofs.frames.spell_frame.Goals as goal

pub returns-clause-spelled : goal.returns-clause-spelled
returns-clause-spelled c =
    let formed = frame_formed c.args.profile.now c.plan-plan.ensures.sound in
    let is = of_root c.args.profile.now c.plan-plan.result.now c.plan-plan.ensures.plan 0 (cell_shape c.args.profile.now frames.cell) refl formed (λ S T. IsSpelling S T (view c.put_indexes.new.value) c.in_ok-bytes_of.field-0.items) c.in_ok-bytes_of.ensures in
    spelled_by c.args.profile.now.schema (cell_shape c.args.profile.now frames.cell) (placed c.args.profile.now (frame_tree c.args.frame.now)) c.in_ok-bytes_of.field-0.items c.within.result
    (subst (λ (u : ValueView). IsSpelling c.args.profile.now.schema (cell_shape c.args.profile.now frames.cell) u c.in_ok-bytes_of.field-0.items) (c.put_indexes.ensures ∙ ap (placed c.args.profile.now) c.in_ok-value.ensures) is)
    c.within.ensures
