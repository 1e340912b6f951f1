use Rattle.wire_values.specs.CarriedFrames.{FitsFrame, IsFrame}
use Rattle.wire_values.specs.Frames.{frame_in, frame_tree}
use Rattle.wire_values.proofs.FitFrames.{frame_fits}
use Rattle.box_wire.specs.Kinds.{frames}
use Rattle.box_wire.proofs.FrameLaws.{frame_laws}
use Rattle.box_wire.proofs.FrameLevels.{frame_levels}
use Rattle.box_wire.proofs.ReadBack.{are_spelled, are_read_back}
use Rattle.box_wire.proofs.laws.frames_and_bytes.Goals as goal

pub returns-clause-spelled : goal.returns-clause-spelled
returns-clause-spelled c = are_spelled frames frame_tree frame_in IsFrame FitsFrame frame_laws frame_fits

pub returns-clause-read_back : goal.returns-clause-read_back
returns-clause-read_back c = are_read_back frames frame_tree frame_in IsFrame FitsFrame frame_laws frame_fits (λ t is clear. frame_levels t is)
