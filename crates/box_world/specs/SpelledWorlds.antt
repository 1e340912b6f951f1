-- Worlds of which each part has a spelling. This project's own.
use Rattle.std.specs.Prelude.{◌≡◌, ℕ, None, Some, slice_get}
use Rattle.box_events.specs.declared.steps.Step.{Step}
use Rattle.box_server.specs.Sound.{IsSound}
use Rattle.box_client.specs.States.{ClientState}
use Rattle.wire_values.specs.Steps.{step_tree}
use Rattle.wire_values.specs.Carried.{FitsCall, FitsStep}
use Rattle.wire_values.specs.CarriedFrames.{FitsFrame}
use Rattle.box_events.specs.declared.replies.Frame.TheVariants as frame
use Rattle.box_wire.specs.Kinds.{steps}
use Rattle.box_world.specs.Worlds.{Packet, push, request, reply, World}
use Rattle.box_world.specs.Spelled.{FitsClient, FitsServer}

-- a step as one that was read is: its parts have a spelling, and its value has no cause
pub record IsStep (s : Step) : Type 0 where
  pub fits : FitsStep s
  pub clear : steps.cause (step_tree s) ≡ None

-- the message of a packet has a spelling
abbrev pub FitsPacket : Packet → Type 0
FitsPacket (push p) = FitsFrame (frame.Push p)
FitsPacket (request k n) = FitsCall n
FitsPacket (reply k n r s) = FitsFrame (frame.Reply n r)

-- the server is sound, its parts and those of each client have a spelling, and so has each packet
pub record FitsWorld (w : World) : Type 0 where
  pub sound : IsSound w.server
  pub server : FitsServer w.server
  pub clients : (k : ℕ) (c : ClientState) → slice_get w.clients k ≡ Some c → FitsClient c
  pub pool : (m : ℕ) (p : Packet) → slice_get w.pool m ≡ Some p → FitsPacket p
