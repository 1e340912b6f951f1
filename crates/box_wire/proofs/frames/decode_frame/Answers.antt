use Rattle.std.proofs.Common.{refl}
use Rattle.wire_profile.specs.Indexes.{cell_shape}
use Rattle.wire_values.specs.CarriedFrames.{IsFrame}
use Rattle.wire_values.specs.Frames.{frame_in, frame_tree}
use Rattle.box_wire.specs.Kinds.{frames}
use Rattle.box_wire.specs.inner.Wholes.{ReadsValue}
use Rattle.box_wire.proofs.Exactly.{none_read, value_spelled, value_unread}
use Rattle.box_wire.proofs.FrameLaws.{frame_laws, frame_formed}
use Rattle.box_wire.proofs.Roots.{of_root}
use Rattle.box_wire.proofs.frames.decode_frame.Goals as goal

pub returns-clause-value : goal.returns-clause-value
returns-clause-value c =
    let formed = frame_formed c.args.profile.now c.plan.ensures.sound in
    value_spelled c.args.profile.now frames c.args.bytes.now c.value_in.result
    (of_root c.args.profile.now c.plan.result.now c.plan.ensures.plan 0 (cell_shape c.args.profile.now frames.cell) refl formed (λ S T. ReadsValue S T c.args.bytes.now c.value_in.result) c.value_in.ensures.whole)

pub returns-clause-refused : goal.returns-clause-refused
returns-clause-refused c =
    let formed = frame_formed c.args.profile.now c.plan.ensures.sound in
    none_read c.args.profile.now c.plan.ensures.sound frames formed c.args.bytes.now c.value_in.ensures.bytes frame_tree frame_in IsFrame frame_laws c.value_in.result
    (of_root c.args.profile.now c.plan.result.now c.plan.ensures.plan 0 (cell_shape c.args.profile.now frames.cell) refl formed (λ S T. ReadsValue S T c.args.bytes.now c.value_in.result) c.value_in.ensures.whole)

pub returns-clause-unread : goal.returns-clause-unread
returns-clause-unread c =
    let formed = frame_formed c.args.profile.now c.plan.ensures.sound in
    value_unread c.args.profile.now.schema (cell_shape c.args.profile.now frames.cell) c.args.bytes.now c.value_in.result
    (of_root c.args.profile.now c.plan.result.now c.plan.ensures.plan 0 (cell_shape c.args.profile.now frames.cell) refl formed (λ S T. ReadsValue S T c.args.bytes.now c.value_in.result) c.value_in.ensures.whole)
