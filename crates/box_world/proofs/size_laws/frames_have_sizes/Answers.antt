use Rattle.wire_values.specs.CarriedFrames.{FitsFrame, IsFrame}
use Rattle.wire_values.specs.Frames.{frame_in, frame_tree}
use Rattle.box_wire.specs.Kinds.{frames}
use Rattle.box_wire.proofs.FrameLaws.{frame_laws}
use Rattle.box_wire.proofs.FrameLevels.{frame_levels}
use Rattle.box_world.proofs.Least.{frames_are_long}
use Rattle.box_world.proofs.MessageForms.{frame_has}
use Rattle.box_world.proofs.MessagesFit.{frame_in_fits}
use Rattle.box_world.proofs.SpelledMessages.{of_the_kind, of_their_size, are_whole, are_meant, meant_fit}
use Rattle.box_world.proofs.size_laws.frames_have_sizes.Goals as goal

pub returns-clause-kind : goal.returns-clause-kind
returns-clause-kind c = of_the_kind frames frame_tree frame_in IsFrame frame_laws frame_has (λ m. tt)

pub returns-clause-size : goal.returns-clause-size
returns-clause-size c = of_their_size frames frame_tree frame_in IsFrame frame_laws frame_has (λ m. tt)

pub returns-clause-whole : goal.returns-clause-whole
returns-clause-whole c = are_whole frames frame_tree frame_in IsFrame frame_laws frame_has (λ m. tt)

pub returns-clause-meant : goal.returns-clause-meant
returns-clause-meant c = are_meant frames frame_tree frame_in IsFrame frame_laws frame_has (λ m. tt) (λ t is clear. frame_levels t is)

pub returns-clause-fit : goal.returns-clause-fit
returns-clause-fit c = meant_fit frames frame_tree frame_in IsFrame frame_laws FitsFrame frame_in_fits

pub returns-clause-least : goal.returns-clause-least
returns-clause-least c = frames_are_long
