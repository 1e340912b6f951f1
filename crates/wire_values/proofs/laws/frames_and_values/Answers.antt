use Rattle.wire_values.proofs.SameFrames.{frame_same}
use Rattle.wire_values.proofs.BackFrames.{frame_back}
use Rattle.wire_values.proofs.ReadFrames.{frame_is}
use Rattle.wire_values.proofs.FitFrames.{frame_fits}
use Rattle.wire_values.proofs.laws.frames_and_values.Goals as goal

pub returns-clause-same : goal.returns-clause-same
returns-clause-same c = frame_same

pub returns-clause-back : goal.returns-clause-back
returns-clause-back c = frame_back

pub returns-clause-read : goal.returns-clause-read
returns-clause-read c = frame_is

pub returns-clause-fit : goal.returns-clause-fit
returns-clause-fit c = frame_fits
