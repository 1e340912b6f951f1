-- The laws of spellings that packets need, of frames and of calls.
use Rattle.std.specs.Prelude.{⊤}
use Rattle.wire_values.specs.Calls.{call_in, call_tree}
use Rattle.wire_values.specs.CarriedFrames.{IsFrame}
use Rattle.wire_values.specs.Frames.{frame_in, frame_tree}
use Rattle.box_wire.specs.Kinds.{calls, frames}
use Rattle.box_wire.proofs.CallLaws.{call_laws, call_levels}
use Rattle.box_wire.proofs.FrameLaws.{frame_laws}
use Rattle.box_wire.proofs.FrameLevels.{frame_levels}
use Rattle.box_world.specs.SizeLaws.{CallsAreLong, FramesAreLong, SpelledAreMeant, SpelledHaveTheirSize}
use Rattle.box_world.proofs.Least.{calls_are_long, frames_are_long}
use Rattle.box_world.proofs.MessageForms.{call_has, call_served, frame_has}
use Rattle.box_world.proofs.SpelledMessages.{are_meant, of_their_size}

pub frames_size : SpelledHaveTheirSize frames frame_tree
frames_size = of_their_size frames frame_tree frame_in IsFrame frame_laws frame_has (λ m. tt)

pub calls_size : SpelledHaveTheirSize calls call_tree
calls_size = of_their_size calls call_tree call_in (λ _. ⊤) call_laws call_has call_served

pub frames_meant : SpelledAreMeant frames frame_tree IsFrame
frames_meant = are_meant frames frame_tree frame_in IsFrame frame_laws frame_has (λ m. tt) (λ t is clear. frame_levels t is)

pub calls_meant : SpelledAreMeant calls call_tree (λ _. ⊤)
calls_meant = are_meant calls call_tree call_in (λ _. ⊤) call_laws call_has call_served call_levels

pub frames_long : FramesAreLong
frames_long = frames_are_long

pub calls_long : CallsAreLong
calls_long = calls_are_long
